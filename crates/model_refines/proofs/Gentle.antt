-- GROUP AND MODULE EVENTS of an image leave what a TCP connection holds of its stream while it is online, or end it (`gentle`).
use Prim.Native.Nat.{ℕ}
use mathlib.Core.Path.{◌≡◌, refl, sym, ◌∙◌}
use mathlib.Core.Bool.{Bool, true, true≢false, false≢true}
use mathlib.Core.List.{List}
use Rattle.connection.specs.declared.Connection.{Connection}
use Rattle.connection.specs.declared.Config.{Config}
use Rattle.connection.specs.declared.Remote.{Remote}
use Rattle.connection.specs.Connection.{met_of, switched_of, tick_of}
use Rattle.connection.proofs.Ticks.{Tick, closes_wanted, lets_go, goes_on, tick_is, let_go_udp}
use Rattle.state.specs.Fresh.{config_of}
use Rattle.model.specs.World.{Held, held_at, follow}
use Rattle.model.specs.Events.{Whole}
use Rattle.model_runs.specs.Streams.{Quiet, Kept}
use Rattle.model_runs.proofs.Keeps.{kept_same, follows, kept_follow}
use Rattle.model_runs.proofs.Streams.{Gentle}
use Rattle.model_refines.specs.Whole.{whole_of}
use Rattle.model_refines.proofs.Becomes.{Alike, Becomes, becomes_itself, as_it_was, becomes-met, becomes-ticked, becomes-switched, becomes-sent, becomes}

-- one record
kept_met : (g : Config) (r : Remote) (h : Held) → Kept h (follow (met_of g r h.connection) h)
kept_met g r h = record { going = λ _. follows (met_of g r h.connection) h refl; gone = λ off. absurd (true≢false off) }

kept_switch : (n : ℕ) (b : Bool) (h : Held) → Quiet h → Kept h (follow (switched_of n b h.connection) h)
kept_switch n b h q = kept_follow (switched_of n b h.connection) h refl refl q

kept_tick : (g : Config) (h : Held) → g.tcp ≡ true → Quiet h → Kept h (follow (tick_of g h.connection) h)
kept_tick g h tcp q = go (tick_of g h.connection) (tick_is g h.connection)
  where
    go : (d : Connection) → Tick g h.connection d → Kept h (follow d h)
    go d (closes_wanted e) = record { going = λ on. absurd (false≢true on); gone = λ _. refl }
    go d (lets_go e x) = absurd (true≢false (sym tcp ∙ let_go_udp g h.connection x))
    go d (goes_on _ e x t) =
        record { going = λ _. follows d h t.part; gone = λ off. follows d h t.part ∙ q (sym (t.online tcp) ∙ off) }

alike_kept : (h h' : Held) → Quiet h → Alike h h' → Kept h h'
alike_kept h h' q a = record { going = λ _. a.cell; gone = λ off. a.cell ∙ q (sym a.online ∙ off) }

-- ANY OF THEM
pub gentle : (image : List ℕ) (k : ℕ) → (config_of image k).tcp ≡ true → Gentle (whole_of image) k
gentle image k tcp e w q = go e (held_at (whole_of image e w) k) (becomes image k w e)
  where
    go : (e : Whole) (h : Held) → Becomes image k (held_at w k) e h → Kept (held_at w k) h
    go _ _ (becomes_itself e) = kept_same (held_at w k) q
    go _ _ (as_it_was e) = kept_follow (held_at w k).connection (held_at w k) refl refl q
    go _ _ (becomes-met e source _) = kept_met (config_of image k) source (held_at w k)
    go _ _ becomes-ticked = kept_tick (config_of image k) (held_at w k) tcp q
    go _ _ (becomes-switched e n b) = kept_switch n b (held_at w k) q
    go _ _ (becomes-sent pdu payload h a) = alike_kept (held_at w k) h q a
