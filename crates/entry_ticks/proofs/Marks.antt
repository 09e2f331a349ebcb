-- One turn of the loop over the records, as far as it marks whose transfers end.
use Rattle.std.proofs.Common.{Result}
use Prim.Native.Nat.{ℕ, ◌+◌, ◌<◌, ◌≤◌}
use mathlib.Core.Path.{◌≡◌, refl, sym, ap, ◌∙◌}
use mathlib.Core.Bool.{Bool, false, true, not}
use mathlib.Core.List.{List}
use borrow.Author.Tests.{not-true}
use lib.ListN.{length}
use Rattle.connection.specs.declared.Config.{Config}
use Rattle.connection.specs.declared.Connection.{Connection}
use Rattle.connection.specs.Connection.{failed_of}
use Rattle.connection.proofs.Fails.{kept_fails}
use Rattle.lists.proofs.Both.{and_left}
use Rattle.lists.proofs.Fold.{Folded, fold_on, fold_ended}
use Rattle.state.specs.declared.State.{State}
use Rattle.state.specs.State.{record_at}
use Rattle.state.specs.Fresh.{config_of}
use Rattle.state.proofs.Upto.{Upto, still}
use Rattle.entry_ticks.specs.declared.Ticked.{Ticked}
use Rattle.entry_ticks.specs.Many.{many_of, up_of}
use Rattle.entry_ticks.specs.Tick.{ticks_to, marked_of, fails_at, failed_bit, failed_to}
use Rattle.entry_ticks.proofs.Many.{many_at}
use Rattle.entry_ticks.proofs.Fails.{kept_part, ticked-at}
use Rattle.connection.specs.declared.Refusal.{Refusal}

-- the marks of the connections below i
abbrev pub Marked : List ℕ → ℕ → ℕ → State → ℕ → ℕ → Type 0
Marked image rows count s i w = Folded (failed_bit s (ticks_to image rows count s)) rows 0 i w

module _ (image : List ℕ) (rows count : ℕ) (s n : State) (i w : ℕ) (low : i < rows) (there : i < length s.connections)
    (upto : Upto (many_at image count) s n i) (so : Marked image rows count s i w) where
  -- whether connection i fails, by the record that the loop has
  fails-is : (d : Connection) → d ≡ many_at image count i (record_at n i) → failed_of (record_at n i) d ≡ fails_at s (ticks_to image rows count s) i
  fails-is d e =
      ap (failed_of (record_at n i)) e
      ∙ ap (λ (c : Connection). failed_of c (many_at image count i c)) (still (many_at image count) s n i upto)
      ∙ ap (failed_of (record_at s i)) (sym (ticked-at image rows s count i low there))

  -- of one that has ticked
  pub many_mark : (g : Config) (d : Connection) (on : Bool) (v : ℕ) → g ≡ config_of image i → d ≡ many_of g count (record_at n i)
      → on ≡ failed_of (record_at n i) d → v ≡ marked_of i on w → Marked image rows count s (i + 1) v
  many_mark g d on v config ticked fails marks =
      fold_on (failed_bit s (ticks_to image rows count s)) rows 0 i w v so low
      (marks ∙ ap (λ (b : Bool). marked_of i b w) (fails ∙ fails-is d (ticked ∙ ap (λ (x : Config). many_of x count (record_at n i)) config)))

  -- of one that is up: it is not to be closed, so it has no mark
  pub up_mark : up_of (record_at n i) ≡ true → Marked image rows count s (i + 1) w
  unfolding marked_of
  up_mark u =
      let c = record_at n i in
      let d = many_at image count i c in
      let open-still = not-true c.close_wanted (and_left (not c.close_wanted) _ u) in
      let same = kept_part (config_of image i) count c open-still in
      let none : fails_at s (ticks_to image rows count s) i ≡ false = sym (fails-is d refl) ∙ kept_fails c d same in
      fold_on (failed_bit s (ticks_to image rows count s)) rows 0 i w w so low (sym (ap (λ (b : Bool). marked_of i b w) none))

-- all of them, whatever is answered
pub marks_whole : (image : List ℕ) (rows count : ℕ) (s n : State) (i w : ℕ) (answer : Result Unit Refusal) → rows ≤ i → Marked image rows count s i w
    → n ≡ ticks_to image rows count s
    → ◌≡◌ {A = Ticked} (record { answer = answer; state = n; failed = w })
    (record { answer = answer; state = ticks_to image rows count s; failed = failed_to rows s (ticks_to image rows count s) })
unfolding failed_to
marks_whole image rows count s n i w answer over so is =
    ap (λ (t : State). record { answer = answer; state = t; failed = w }) is
    ∙ ap (λ (v : ℕ). record { answer = answer; state = ticks_to image rows count s; failed = v })
    (fold_ended (failed_bit s (ticks_to image rows count s)) rows 0 i w so over)
