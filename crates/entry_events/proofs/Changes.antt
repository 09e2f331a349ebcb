-- What an event past the gate answers, with the record put back: in a refusal it is the one that stood there.
use Rattle.std.proofs.Common.{Ok}
use Prim.Native.Nat.{ℕ}
use mathlib.Core.Path.{◌≡◌, refl, ap, ◌∙◌}
use mathlib.Core.Bool.{Bool, true, false, cond, not}
use mathlib.Core.List.{List}
use Rattle.connection.specs.declared.Config.{Config}
use Rattle.connection.specs.declared.Refusal.{Refusal}
use Rattle.connection.specs.declared.Refusal.TheVariants.{Missing, Denied}
use Rattle.connection.specs.declared.Stepped.{Stepped}
use Rattle.connection.specs.declared.Event.{Event}
use Rattle.connection.specs.Event.{known, allowed, record_after, refused_by, step_of}
use Rattle.state.specs.declared.State.{State}
use Rattle.state.specs.State.{record_at, with_record}
use Rattle.state.specs.Fresh.{config_of}
use Rattle.state.proofs.Records.{put_back}
use Rattle.entry_events.specs.declared.Told.{Told}
use Rattle.entry_events.specs.Change.{refused_told, told_of, change_of}

-- the record put back at number k
abbrev pub told : State → ℕ → Stepped → Told
told s k t = record { answer = t.answer; state = with_record k t.connection s }

-- a refusal puts back the record that stood there
pub back : (s : State) (k : ℕ) (r : Refusal) → told s k (refused_by r (record_at s k)) ≡ refused_told s r
back s k r = ap (λ (x : State). refused_told x r) (put_back s k)

-- past the gate
pub past : (s : State) (n : ℕ) (e : Event) (g : Config)
    → told s n (step_of e g (record_at s n)) ≡ told_of s n (step_of e g (record_at s n)).answer (step_of e g (record_at s n)).connection
unfolding step_of told_of
past s n e g = go (not (known e)) (not (allowed e g (record_at s n)))
  where
    step : Bool → Bool → Stepped
    step a b = cond a (refused_by Missing (record_at s n))
        (cond b (refused_by Denied (record_at s n)) (record { answer = Ok tt; connection = record_after e g (record_at s n) }))

    go : (a b : Bool) → told s n (step a b) ≡ told_of s n (step a b).answer (step a b).connection
    go true b = back s n Missing
    go false true = back s n Denied
    go false false = refl

-- by the configuration that was read and the answer that was given
pub change-is : (image : List ℕ) (s : State) (n : ℕ) (e : Event) (g : Config) (t : Stepped)
    → g ≡ config_of image n → t ≡ step_of e g (record_at s n) → told s n t ≡ change_of image s n e
unfolding change_of
change-is image s n e g t config stepped =
    ap (told s n) (stepped ∙ ap (λ (x : Config). step_of e x (record_at s n)) config) ∙ past s n e (config_of image n)
