-- R19.7: WHOSE TRANSFERS TICKS END. Bit k of the word is set exactly where connection k has failed (`failed-bit`); many ticks fail what the
-- first of them fails (`failed_first`), and those after it fail none (`failed_later`).
use Prim.Native.Nat.{ℕ, zero, suc, ◌+◌, ◌*◌, ◌<◌, ◌≤◌, ◌%◌, ◌^◌, max}
use mathlib.Core.Path.{◌≡◌, refl, sym, ap, ◌∙◌, subst}
use mathlib.Core.Bool.{Bool, true, false, cond, not, ◌&&◌}
use mathlib.Core.List.{List, [], ◌∷◌}
use native.Mathlib.Decide.{dec_lt, ℕ_discrete}
use native.Mathlib.Nat.{mod-eq_of_lt, max-zero, zero-div}
use native.Mathlib.Omega.{arith}
use lib.Bits.{bit_or}
use lib.Dec.{ltb}
use lib.Pow.{pow-lt}
use lib.ListN.{length, get_or, get_or-eq_default}
use borrow.Author.Tests.{lt-ltb, le-ltb}
use Rattle.wire.specs.Bits.{bit_at}
use Rattle.receive_part.specs.declared.Part.{Part}
use Rattle.receive_part.specs.Part.{transferring}
use Rattle.connection.specs.declared.Config.{Config}
use Rattle.connection.specs.declared.Connection.{Connection}
use Rattle.connection.specs.Connection.{zero_record, tick_of, failed_of}
use Rattle.connection.proofs.Bits.{or_bit, own-bit, other_bit}
use Rattle.connection.proofs.Fails.{kept_fails, tick-fails}
use Rattle.connection.proofs.Ticks.{tick-part, tick_wish}
use Rattle.lists.specs.Each.{each_to}
use Rattle.lists.specs.Fold.{fold_from}
use Rattle.lists.proofs.Each.{each-length}
use Rattle.lists.proofs.Fold.{fold_goes, fold_keeps, fold_alike}
use Rattle.state.specs.declared.State.{State}
use Rattle.state.specs.State.{record_at}
use Rattle.state.specs.Fresh.{config_of}
use Rattle.entry_ticks.specs.Many.{many_of}
use Rattle.entry_ticks.specs.Tick.{ticked_to, ticks_to, marked_of, fails_at, failed_bit, failed_to}
use Rattle.entry_ticks.proofs.Many.{many_at, ticks-each, ticks-one}

-- ONE RECORD

-- ticks of a record that is not to be closed leave its part
pub kept_part : (g : Config) (n : ℕ) (c : Connection) → c.close_wanted ≡ false → (many_of g n c).part ≡ c.part
unfolding many_of
kept_part g zero c k = refl
kept_part g (suc n) c k = kept_part g n (tick_of g c) (tick_wish g c) ∙ tick-part g c ∙ rw k

-- so of many ticks the first says what becomes of the part
pub first_part : (g : Config) (n : ℕ) (c : Connection) → (many_of g (suc n) c).part ≡ (tick_of g c).part
unfolding many_of
first_part g n c = kept_part g n (tick_of g c) (tick_wish g c)

-- THE WORD

-- one, moved k places up, is the bit's worth
pub bit_is : (k : ℕ) → k < 16 → (1 * 2 ^ k) % 65536 ≡ 2 ^ k
bit_is k h =
    let e : 1 * 2 ^ k ≡ 2 ^ k = omega arith in
    let l : 2 ^ k < 65536 = pow-lt h in
    rw e (mod-eq_of_lt l)

-- marking bit i leaves every other bit
marked-own : (i : ℕ) (on : Bool) (w : ℕ) → bit_at i w ≡ 0 → bit_at i (marked_of i on w) ≡ cond on 1 0
unfolding marked_of
marked-own i true w z = or_bit i w (2 ^ i) ∙ rw (z, own-bit i)
marked-own i false w z = z

marked_other : (i k : ℕ) (on : Bool) (w : ℕ) → (k ≡ i → ⊥) → bit_at k (marked_of i on w) ≡ bit_at k w
unfolding marked_of
marked_other i k true w ne = or_bit k w (2 ^ i) ∙ ap (max (bit_at k w)) (other_bit i k ne) ∙ max-zero (bit_at k w)
marked_other i k false w ne = refl

-- a bit other than i is below i + 1 where it is below i
below_next : (k i : ℕ) → (k ≡ i → ⊥) → ltb k i ≡ ltb k (suc i)
below_next k i ne = go (dec_lt k i)
  where
    go : Dec (k < i) → ltb k i ≡ ltb k (suc i)
    go (yes h) = lt-ltb k i h ∙ sym (lt-ltb k (suc i) (omega arith))
    go (no h) = le-ltb k i (omega arith) ∙ sym (le-ltb k (suc i) (omega (arith, ne)))

module _ (s t : State) where
  -- the bits below i are as they are to be, and there are no others
  abbrev BitsTo : ℕ → ℕ → Type 0
  BitsTo i w = (k : ℕ) → bit_at k w ≡ cond (ltb k i && fails_at s t k) 1 0

  no_bits : BitsTo 0 0
  no_bits k =
      ap (λ (x : ℕ). x % 2) (zero-div (2 ^ k)) ∙ sym (ap (λ (b : Bool). cond (b && fails_at s t k) 1 0) (le-ltb k 0 (omega arith)))

  bit-more : (i w : ℕ) → BitsTo i w → BitsTo (suc i) (failed_bit s t w i)
  bit-more i w h k = go (ℕ_discrete k i)
    where
      none : bit_at i w ≡ 0
      none = h i ∙ ap (λ (b : Bool). cond (b && fails_at s t i) 1 0) (le-ltb i i (omega arith))

      own : bit_at i (failed_bit s t w i) ≡ cond (ltb i (suc i) && fails_at s t i) 1 0
      own =
          marked-own i (fails_at s t i) w none
          ∙ sym (ap (λ (b : Bool). cond (b && fails_at s t i) 1 0) (lt-ltb i (suc i) (omega arith)))

      go : Dec (k ≡ i) → bit_at k (failed_bit s t w i) ≡ cond (ltb k (suc i) && fails_at s t k) 1 0
      go (yes e) = subst (λ (j : ℕ). bit_at j (failed_bit s t w i) ≡ cond (ltb j (suc i) && fails_at s t j) 1 0) (sym e) own
      go (no ne) =
          marked_other i k (fails_at s t i) w ne ∙ h k ∙ ap (λ (b : Bool). cond (b && fails_at s t k) 1 0) (below_next k i ne)

  -- BIT k IS SET exactly where k is one of the rows and connection k has failed
  pub failed-bit : (rows k : ℕ) → bit_at k (failed_to rows s t) ≡ cond (ltb k rows && fails_at s t k) 1 0
  unfolding failed_to
  failed-bit rows =
      let e : 0 + rows ≡ rows = omega arith in
      subst (λ (i : ℕ). BitsTo i (fold_from (failed_bit s t) rows 0 0)) e (fold_goes (failed_bit s t) BitsTo rows 0 0 (λ i w _ _ h. bit-more i w h) no_bits)

  -- none where no connection has failed
  pub failed_none : (rows : ℕ) → ((k : ℕ) → k < rows → fails_at s t k ≡ false) → failed_to rows s t ≡ 0
  unfolding failed_to marked_of
  failed_none rows none =
      fold_keeps (failed_bit s t) (λ (w : ℕ). w ≡ 0) rows 0 0
      (λ i w _ h e. kept i w (none i (omega arith)) ∙ e) refl
    where
      kept : (i w : ℕ) → fails_at s t i ≡ false → failed_bit s t w i ≡ w
      kept i w n = ap (λ (b : Bool). cond b (bit_or w (2 ^ i)) w) n

-- the same word, where the same connections have failed
pub failed_same : (s t u : State) (rows : ℕ) → ((k : ℕ) → k < rows → fails_at s t k ≡ fails_at s u k) → failed_to rows s t ≡ failed_to rows s u
unfolding failed_to
failed_same s t u rows same =
    fold_alike (failed_bit s t) (failed_bit s u) (λ (w : ℕ). w) (λ (i w : ℕ). w ≡ w) rows 0 0 (λ i w _ _ _. refl)
    (λ i w _ h _. ap (λ (b : Bool). marked_of i b w) (same i (omega arith))) refl

-- THE WHOLE MODULE

-- one of the first n elements that are changed, each by what its index says
each-there : {A : Type 0} (d : A) (f : ℕ → A → A) (b n : ℕ) (xs : List A) (k : ℕ) → k < n → k < length xs → get_or (each_to f b n xs) k d
    ≡ f (b + k) (get_or xs k d)
each-there d f b zero xs k h l = absurd (omega arith)
each-there d f b (suc n) [] k h l = absurd (omega arith)
each-there d f b (suc n) (x ∷ xs) zero h l = let e : b ≡ b + 0 = omega arith in ap (λ (m : ℕ). f m x) e
each-there d f b (suc n) (x ∷ xs) (suc k) h l =
    let e : suc b + k ≡ b + suc k = omega arith in
    each-there d f (suc b) n xs k (omega arith) (omega arith) ∙ ap (λ (m : ℕ). f m (get_or xs k d)) e

module _ (image : List ℕ) (rows : ℕ) (s : State) where
  -- what n ticks leave of connection k
  pub ticked-at : (n k : ℕ) → k < rows → k < length s.connections → record_at (ticks_to image rows n s) k ≡ many_at image n k (record_at s k)
  ticked-at n k h l =
      let z : 0 + k ≡ k = omega arith in
      ap (λ (t : State). record_at t k) (ticks-each image rows n s)
      ∙ each-there zero_record (many_at image n) 0 rows s.connections k h l
      ∙ ap (λ (i : ℕ). many_at image n i (record_at s k)) z

  past : (n k : ℕ) → length s.connections ≤ k → record_at (ticks_to image rows n s) k ≡ zero_record
  past n k h =
      ap (λ (t : State). record_at t k) (ticks-each image rows n s)
      ∙ get_or-eq_default (each_to (many_at image n) 0 rows s.connections) zero_record
      (let e = each-length (many_at image n) 0 rows s.connections in omega (arith, e))

  -- a property of connection k after ticks, where it holds of what they leave of its record, and, if there is none, of the zero record
  after-ticks : (P : Connection → Type 0) (n k : ℕ) → k < rows → P (many_at image n k (record_at s k)) → (record_at s k ≡ zero_record → P zero_record)
      → P (record_at (ticks_to image rows n s) k)
  after-ticks P n k h p z = go (dec_lt k (length s.connections))
    where
      go : Dec (k < length s.connections) → P (record_at (ticks_to image rows n s) k)
      go (yes l) = subst P (sym (ticked-at n k h l)) p
      go (no l) =
          let m : length s.connections ≤ k = omega arith in
          subst P (sym (past n k m)) (z (get_or-eq_default s.connections zero_record m))

  -- no close is wanted after a tick
  pub quiet-after : (k : ℕ) → k < rows → (record_at (ticked_to image rows s) k).close_wanted ≡ false
  unfolding many_of
  quiet-after k h =
      subst (λ (t : State). (record_at t k).close_wanted ≡ false) (ticks-one image rows s)
      (after-ticks (λ (c : Connection). c.close_wanted ≡ false) 1 k h (tick_wish (config_of image k) (record_at s k)) (λ _. refl))

  -- ticks end no transfer where no close is wanted
  pub quiet-fails : (n : ℕ) → ((k : ℕ) → k < rows → (record_at s k).close_wanted ≡ false) → failed_to rows s (ticks_to image rows n s) ≡ 0
  quiet-fails n quiet =
      failed_none s (ticks_to image rows n s) rows
      (λ k h.
      after-ticks (λ (c : Connection). failed_of (record_at s k) c ≡ false) n k h
      (kept_fails (record_at s k) (many_at image n k (record_at s k)) (kept_part (config_of image k) n (record_at s k) (quiet k h)))
      (λ e. subst (λ (c : Connection). failed_of c zero_record ≡ false) (sym e) refl))

  -- A TICK ENDS exactly the transfers of connections that are to be closed
  pub tick_failed : (k : ℕ) → k < rows → fails_at s (ticked_to image rows s) k ≡ ((record_at s k).close_wanted && transferring (record_at s k).part)
  unfolding many_of
  tick_failed k h =
      subst (λ (t : State). fails_at s t k ≡ ((record_at s k).close_wanted && transferring (record_at s k).part)) (ticks-one image rows s)
      (after-ticks (λ (c : Connection). failed_of (record_at s k) c ≡ ((record_at s k).close_wanted && transferring (record_at s k).part)) 1 k h
      (tick-fails (config_of image k) (record_at s k))
      (λ e. subst (λ (c : Connection). failed_of c zero_record ≡ (c.close_wanted && transferring c.part)) (sym e) refl))

  -- MANY TICKS END the transfers that the first of them ends
  first-at : (n k : ℕ) → k < rows → (record_at (ticks_to image rows (suc n) s) k).part ≡ (record_at (ticks_to image rows 1 s) k).part
  first-at n k h = go (dec_lt k (length s.connections))
    where
      go : Dec (k < length s.connections) → (record_at (ticks_to image rows (suc n) s) k).part ≡ (record_at (ticks_to image rows 1 s) k).part
      go (yes l) =
          ap (λ (c : Connection). c.part) (ticked-at (suc n) k h l)
          ∙ first_part (config_of image k) n (record_at s k)
          ∙ sym (first_part (config_of image k) 0 (record_at s k))
          ∙ sym (ap (λ (c : Connection). c.part) (ticked-at 1 k h l))
      go (no l) =
          let m : length s.connections ≤ k = omega arith in
          ap (λ (c : Connection). c.part) (past (suc n) k m ∙ sym (past 1 k m))

  pub failed_first : (n : ℕ) → failed_to rows s (ticks_to image rows (suc n) s) ≡ failed_to rows s (ticked_to image rows s)
  failed_first n =
      failed_same s (ticks_to image rows (suc n) s) (ticks_to image rows 1 s) rows
      (λ k h. ap (λ (p : Part). transferring (record_at s k).part && not (transferring p)) (first-at n k h))
      ∙ ap (failed_to rows s) (ticks-one image rows s)

  -- no tick ends none
  pub failed_still : failed_to rows s s ≡ 0
  failed_still = failed_none s s rows (λ k _. kept_fails (record_at s k) (record_at s k) refl)

-- AND THOSE AFTER IT END NONE
pub failed_later : (image : List ℕ) (rows n : ℕ) (s : State) → failed_to rows (ticked_to image rows s) (ticks_to image rows n (ticked_to image rows s)) ≡ 0
failed_later image rows n s = quiet-fails image rows (ticked_to image rows s) n (quiet-after image rows s)
