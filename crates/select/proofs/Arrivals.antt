-- Each answer of an arrival, before and after the search; and the state after it, of the answer alone.
use Rattle.std.proofs.Common.{Option, ℕ, Some, None, Result, Ok, Err}
use Prim.Native.Nat.{ℕ, ◌/◌, ◌%◌, ◌<◌, ◌≤◌}
use mathlib.Core.Path.{◌≡◌, refl, ap, ap₂, ◌∙◌}
use mathlib.Core.Bool.{Bool, true, false, cond, not, ◌||◌}
use mathlib.Core.List.{List}
use native.Mathlib.Omega.{arith}
use lib.Dec.{eqb, leb}
use lib.ListN.{length}
use lib.Seq.{set-get_or}
use borrow.Author.Tests.{le-leb, lt-leb, eq-eqb}
use Rattle.table_layout.specs.Layout.{rows_of, body_of, Laid}
use Rattle.table_layout.specs.declared.Kind.TheVariants.{Group}
use Rattle.table_rows.specs.declared.GroupRow.{GroupRow}
use Rattle.table_rows.specs.Rows.{group_in, group_of}
use Rattle.connection.specs.declared.Connection.{Connection}
use Rattle.connection.specs.declared.Remote.{Remote}
use Rattle.connection.specs.declared.Refusal.{Refusal}
use Rattle.connection.specs.declared.Refusal.TheVariants.{Missing, Denied}
use Rattle.connection.specs.Connection.{zero_record, wildcard, met_of}
use Rattle.state.specs.declared.State.{State}
use Rattle.state.specs.State.{record_at, with_records, with_record}
use Rattle.state.specs.Fresh.{config_of}
use Rattle.select.specs.declared.Pick.{Pick}
use Rattle.select.specs.declared.NotMet.TheVariants.{Refused, Unmatched}
use Rattle.select.specs.declared.Arrived.{Arrived}
use Rattle.select.specs.Best.{found}
use Rattle.select.specs.Choose.{chosen_in, meet, arrival_refused, protocol_of, denied_of, arrive_of, answer_before, answer_after, met_place, met_next}
use Rattle.select.proofs.Scores.{rows_are}
use Rattle.select.proofs.Pass.{chosen_small}
use Rattle.select.specs.declared.NotMet.{NotMet}

module _ (image : List ℕ) (accept : Bool) (group : ℕ) (source : Remote) (l : Laid image) (groups : List ℕ) (eg : groups ≡ body_of image Group) where
  counted : length groups / 2 ≡ rows_of image Group
  counted = rows_are image l Group groups eg

  pub before_missing : length groups / 2 ≤ group → Err (Refused Missing) ≡ answer_before image accept group source
  unfolding answer_before
  before_missing h = rw (← counted, le-leb _ _ h)

  module _ (there : group < length groups / 2) (row : GroupRow) (er : row ≡ group_in groups group) (protocol : ℕ) (ep : protocol ≡ protocol_of accept)
      (wild : Bool) (ew : wild ≡ wildcard source) where
    denied_is : (not (eqb row.protocol protocol) || wild) ≡ denied_of image accept group source
    unfolding denied_of
    denied_is =
        ap₂ (λ (r : GroupRow) (w : Bool). not (eqb r.protocol protocol) || w) (er ∙ ap (λ (b : List ℕ). group_in b group) eg) ew
        ∙ ap (λ (n : ℕ). not (eqb (group_of image group).protocol n) || wildcard source) ep

    pub before_denied : (not (eqb row.protocol protocol) || wild) ≡ true → Err (Refused Denied) ≡ answer_before image accept group source
    unfolding answer_before
    before_denied t = rw (← counted, lt-leb _ _ there, ← denied_is, t)

    -- past both, nobody so far
    pub before_nobody : (not (eqb row.protocol protocol) || wild) ≡ false → Err Unmatched ≡ answer_before image accept group source
    unfolding answer_before
    before_nobody t = rw (← counted, lt-leb _ _ there, ← denied_is, t)

-- THE ANSWER AFTER THE SEARCH: a refusal stays, and where nobody is answered before it, it is the choice's
pub after_is : (image : List ℕ) (s : State) (accept : Bool) (group : ℕ) (source : Remote) (b : Pick)
    → (answer_before image accept group source ≡ Err Unmatched → found b ≡ chosen_in image s accept group source)
    → ((answer_before image accept group source ≡ Err Unmatched → ⊥) → b.score ≡ 0)
    → answer_after (answer_before image accept group source) b ≡ (arrive_of image s accept group source).answer
unfolding answer_before arrive_of
after_is image s accept group source b = go (leb (rows_of image Group) group) (denied_of image accept group source)
  where
    chosen : Option ℕ
    chosen = chosen_in image s accept group source

    first : Bool → Bool → Result ℕ NotMet
    first x y = cond x (Err (Refused Missing)) (cond y (Err (Refused Denied)) (Err Unmatched))

    refused : (r : Refusal) → ((◌≡◌ {A = Result ℕ NotMet} (Err (Refused r)) (Err Unmatched) → ⊥) → b.score ≡ 0)
        → answer_after (Err (Refused r)) b ≡ Err (Refused r)
    refused r idle = rw (eq-eqb _ _ (idle (λ e. let z : ◌≡◌ {A = ℕ} 0 1 = cc in omega arith)))

    nobody : (t : Bool) → cond t (Err Unmatched) (Ok b.at) ≡ (meet image s source (cond t None (Some b.at))).answer
    nobody true = refl
    nobody false = refl

    go : (x y : Bool) → (first x y ≡ Err Unmatched → found b ≡ chosen) → ((first x y ≡ Err Unmatched → ⊥) → b.score ≡ 0)
        → answer_after (first x y) b ≡ (cond x (arrival_refused s Missing) (cond y (arrival_refused s Denied) (meet image s source chosen))).answer
    go true y f idle = refused Missing idle
    go false true f idle = refused Denied idle
    go false false f idle = nobody (eqb b.score 0) ∙ ap (λ (x : Option ℕ). (meet image s source x).answer) (f refl)

-- THE RECORD PUT BACK at the place of the answer
abbrev pub landed : List ℕ → State → Remote → Result ℕ NotMet → Arrived
landed image s source a = record { answer = a; state = with_record (met_place a) (met_next image source a (record_at s (met_place a))) s }

module _ (image : List ℕ) (s : State) (source : Remote) where
  -- where the answer names no connection it is the record that stood there
  pub landed_refused : (r : Refusal) → landed image s source (Err (Refused r)) ≡ arrival_refused s r
  landed_refused r = ap (λ (cs : List Connection). arrival_refused (with_records cs s) r) (set-get_or s.connections 0 zero_record)

  landed_meets : (x : Option ℕ) → ((k : ℕ) → x ≡ Some k → k < 16) → landed image s source (meet image s source x).answer ≡ meet image s source x
  landed_meets None h =
      ap (λ (cs : List Connection). record { answer = Err Unmatched; state = with_records cs s }) (set-get_or s.connections 0 zero_record)
  landed_meets (Some k) h =
      let small : k < 16 = h k refl in
      let same : k % 16 ≡ k = omega arith in
      ap (λ (n : ℕ). record { answer = Ok k; state = with_record n (met_of (config_of image k) source (record_at s n)) s }) same

  pub landed_is : (accept : Bool) (group : ℕ) → landed image s source (arrive_of image s accept group source).answer ≡ arrive_of image s accept group source
  unfolding arrive_of
  landed_is accept group = go (leb (rows_of image Group) group) (denied_of image accept group source)
    where
      chosen : Arrived
      chosen = meet image s source (chosen_in image s accept group source)

      by : Bool → Bool → Arrived
      by a b = cond a (arrival_refused s Missing) (cond b (arrival_refused s Denied) chosen)

      go : (a b : Bool) → landed image s source (by a b).answer ≡ by a b
      go true b = landed_refused Missing
      go false true = landed_refused Denied
      go false false = landed_meets (chosen_in image s accept group source) (chosen_small image s accept group source)
