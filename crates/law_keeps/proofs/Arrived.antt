-- What passes the gate passes it again after a datagram or an accept.
use Rattle.std.proofs.Common.{Option, ℕ, Some, None}
use Prim.Native.Nat.{ℕ, ◌+◌, ◌<◌}
use mathlib.Core.Path.{◌≡◌, refl}
use mathlib.Core.Bool.{Bool, true, false, cond, not, ◌&&◌, ◌||◌}
use mathlib.Core.List.{List}
use native.Mathlib.Omega.{arith}
use lib.Dec.{eqb, leb, ltb}
use borrow.Author.Tests.{eqb-true, ltb-true}
use Rattle.lists.proofs.Both.{and_left, neither}
use Rattle.table_layout.specs.Layout.{rows_of}
use Rattle.table_layout.specs.declared.Kind.TheVariants.{Group, Connection as Connections}
use Rattle.table_rows.specs.Rows.{group_of}
use Rattle.table.specs.Accepts.{Accepts}
use Rattle.table.proofs.Facts.{accepted_facts}
use Rattle.connection.specs.declared.Remote.{Remote}
use Rattle.connection.specs.declared.Refusal.TheVariants.{Missing, Denied}
use Rattle.connection.specs.Connection.{equal_fields, wild_fields, wildcard, met_of}
use Rattle.connection.proofs.Keeps.{met_keeps}
use Rattle.state.specs.declared.State.{State}
use Rattle.state.specs.State.{record_at}
use Rattle.state.specs.Fresh.{config_of}
use Rattle.gate.specs.Lent.{Lent, next}
use Rattle.gate.specs.Gate.{gate_of, Passed}
use Rattle.gate.specs.Sound.{records_sound}
use Rattle.select.specs.declared.Arrived.{Arrived}
use Rattle.select.specs.Best.{IsChosen}
use Rattle.select.specs.Choose.{rank_of, matches, member_counts, member, score_of, score_at, chosen_in, meet, arrival_refused, protocol_of, denied_of}
use Rattle.select.specs.Choose.{arrive_of}
use Rattle.select.proofs.Pass.{chosen_is_best}
use Rattle.entry_arrivals.specs.Arrivals.{arrival_of}
use Rattle.gate.proofs.Pass.{passed-next}
use Rattle.law_keeps.proofs.Past.{past_or}
use Rattle.law_keeps.proofs.Rows.{unchanged, row-set}
use Rattle.law_keeps.proofs.Records.{counts_up}

-- a score above 0 shows a member that counts
scored : (m k r : Bool) (n : ℕ) → 0 < cond (m && k && r) (1 + n) 0 → (m ≡ true) × (k ≡ true)
scored true true r n h = (refl, refl)
scored true false r n h = absurd (omega arith)
scored false k r n h = absurd (omega arith)

-- R20.1: under an accepted table no TCP connection has an alive limit
unlimited-row : (image : List ℕ) → Accepts image → (k : ℕ) → k < rows_of image Connections → (config_of image k).tcp ≡ true → (config_of image k).alive ≡ 0
unfolding config_of
unlimited-row image a k h t = a.unlimited k h (eqb-true _ _ t)

module _ (image : List ℕ) (a : Accepts image) (s : State) (accept : Bool) (group : ℕ) (source : Remote)
    (sound : records_sound image s.connections ≡ true) (w : wildcard source ≡ false) where
  chosen : (k : ℕ) → 0 < score_at image s accept group source k → (k < rows_of image Connections) × (member_counts accept (record_at s k) ≡ true)
  unfolding score_at score_of
  chosen k l =
      let p = scored (member image s accept group source k) (member_counts accept (record_at s k))
      (matches (equal_fields (record_at s k).remote source) (wild_fields (record_at s k).remote)) (rank_of (equal_fields (record_at s k).remote source)) l in
      (ltb-true _ _ (and_left (ltb k (rows_of image Connections)) _ p.0), p.1)

  met-sound : (x : Option ℕ) → IsChosen (score_at image s accept group source) 16 x → records_sound image (meet image s source x).state.connections ≡ true
  met-sound None b = sound
  met-sound (Some k) b =
      let p = chosen k b.counts in
      row-set image s k (met_of (config_of image k) source (record_at s k)) sound p.0
      (λ q. met_keeps (config_of image k) (record_at s k) q source (unlimited-row image a k p.0) (counts_up accept (record_at s k) p.1) w) unchanged

  chosen_keeps : records_sound image (meet image s source (chosen_in image s accept group source)).state.connections ≡ true
  chosen_keeps = met-sound (chosen_in image s accept group source) (chosen_is_best image s accept group source)

arrive_keeps : (image : List ℕ) → Accepts image → (s : State) (accept : Bool) (group : ℕ) (source : Remote) → records_sound image s.connections ≡ true
    → records_sound image (arrive_of image s accept group source).state.connections ≡ true
unfolding arrive_of denied_of
arrive_keeps image a s accept group source h = go (leb (rows_of image Group) group) (denied_of image accept group source) refl
  where
    go : (x y : Bool) → (not (eqb (group_of image group).protocol (protocol_of accept)) || wildcard source) ≡ y
        → records_sound image (cond x (arrival_refused s Missing)
        (cond y (arrival_refused s Denied) (meet image s source (chosen_in image s accept group source)))).state.connections ≡ true
    go true y e = h
    go false true e = h
    go false false e = chosen_keeps image a s accept group source h
        (neither (not (eqb (group_of image group).protocol (protocol_of accept))) (wildcard source) e).1

-- the entry points
pub arrival_passed : (l : Lent) (accept : Bool) (group : ℕ) (source : Remote) → Passed l → Passed (next l (arrival_of l accept group source).state)
unfolding arrival_of
arrival_passed l accept group source p =
    past_or (λ (a : Arrived). Passed (next l a.state)) (gate_of l) (arrival_refused l.state) (arrive_of l.image l.state accept group source) (λ r. p)
    (λ _. passed-next l _ p (arrive_keeps l.image (accepted_facts l.image p.table) l.state accept group source p.sound))
