-- A search over the rows of a body, at the places where a loop stands.
use Prim.Native.Nat.{ℕ, ◌+◌, ◌-◌, ◌*◌, ◌/◌, ◌<◌}
use mathlib.Core.Path.{◌≡◌, refl, sym, ap, ◌∙◌}
use mathlib.Core.Bool.{Bool, true, false, not}
use mathlib.Core.List.{List}
use native.Mathlib.Omega.{arith}
use lib.ListN.{length, take, drop}
use Rattle.lists.specs.Search.{first_bad, every}
use Rattle.lists.proofs.Both.{and_both, and_first, and_second}
use Rattle.lists.proofs.Search.{Searched, search_on, search_found, every-all}
use Rattle.table_layout.proofs.Parts.{row_range}
use Rattle.table_layout.specs.Layout.{row_in}
use Rattle.table_layout.specs.declared.Kind.{Kind}
use Rattle.table_layout.specs.declared.Kind.TheVariants.{Group, Connection}
use Rattle.table_scan.specs.Scan.{share, clear_in, good_in}

module _ (good : List ℕ → Bool) (shares : List ℕ → List ℕ → Bool) (n : ℕ) (body : List ℕ) where
  -- at row i: what is left of the search has the whole one's answer
  abbrev pub At : ℕ → Type 0
  At i = Searched (good_in good shares n body) (length body / n) i

  module _ (i : ℕ) (row : List ℕ) (at : At i) (h : i < length body / n) (is : row ≡ row_in n body i) where
    pub bad-row : {ok : Bool} → ok ≡ good row → ok ≡ false → i ≡ first_bad (good_in good shares n body) (length body / n)
    unfolding good_in
    bad-row e f = search_found _ _ i at h (and_first _ _ (ap good (sym is) ∙ sym e ∙ f))

    pub shared_row : {ok : Bool} → ok ≡ every (clear_in shares n body i) i → ok ≡ false → i ≡ first_bad (good_in good shares n body) (length body / n)
    unfolding good_in
    shared_row e f = search_found _ _ i at h (and_second (good (row_in n body i)) _ (sym e ∙ f))

    pub good_row : {ok new : Bool} → ok ≡ good row → ok ≡ true → new ≡ every (clear_in shares n body i) i → new ≡ true → At (i + 1)
    unfolding good_in
    good_row e t f u = search_on _ _ i at h (and_both (ap good (sym is) ∙ sym e ∙ t) (sym f ∙ u))

-- groups and connections share freely
pub free : (k : Kind) (n : ℕ) (body : List ℕ) (i : ℕ) → ((a b : List ℕ) → share k a b ≡ false) → true ≡ every (clear_in (share k) n body i) i
unfolding clear_in
free k n body i h = sym (every-all _ i (λ j l. ap not (h (row_in n body j) (row_in n body i))))

pub groups_free : (a b : List ℕ) → share Group a b ≡ false
unfolding share
groups_free a b = refl

pub connections_free : (a b : List ℕ) → share Connection a b ≡ false
unfolding share
connections_free a b = refl

-- one pair of rows, by numbers that are they
module _ (shares : List ℕ → List ℕ → Bool) (n : ℕ) (body : List ℕ) (i j : ℕ) (row earlier : List ℕ)
    (is : row ≡ row_in n body i) (was : earlier ≡ row_in n body j) where
  pub clear_pair : {ok : Bool} → ok ≡ shares earlier row → ok ≡ false → clear_in shares n body i j ≡ true
  unfolding clear_in
  clear_pair e f = rw (← is, ← was, sym e ∙ f)

  pub shared_pair : {ok : Bool} → ok ≡ shares earlier row → ok ≡ true → clear_in shares n body i j ≡ false
  unfolding clear_in
  shared_pair e f = rw (← is, ← was, sym e ∙ f)

-- a loop over rows of 16 bytes that goes by the place of a row: row at / 16 starts at `at`
pub place-first : (i : ℕ) → i * 16 / 16 ≡ i
place-first i = omega arith

pub place-next : (at : ℕ) → (at + 16) / 16 ≡ at / 16 + 1
place-next at = omega arith

-- `&body[at..at + 16]` is that row
pub place_range : (body : List ℕ) (at : ℕ) → at ≡ at / 16 * 16 → at < length body / 16 * 16
    → take (at + 16 - at) (drop at body) ≡ row_in 16 body (at / 16)
place_range body at starts h = ap (λ (x : ℕ). take (x + 16 - x) (drop x body)) starts ∙ row_range 16 body (at / 16) (omega arith)
