-- Where bodies and rows lie.
use Prim.Native.Nat.{ℕ, ◌+◌, ◌-◌, ◌*◌, ◌/◌, ◌<◌, ◌≤◌}
use mathlib.Core.Path.{◌≡◌, sym, ap, ◌∙◌}
use mathlib.Core.List.{List, []}
use Rattle.wire.specs.Be.{be}
use Rattle.wire.specs.Place.{behind}
use Rattle.wire.proofs.Part.{be-part}
use Rattle.wire.proofs.Place.{at_front, at-behind}
use native.Mathlib.Nat.{mul-le-mul, le_of_lt, add-sub_cancel_left, suc-mul, mul-le-mul_right, div-mul-le_self, le_trans, zero-add, div-zero, mul-div_cancel}
use native.Mathlib.Omega.{arith}
use borrow.Author.Tests.{le-leb, lt-leb, lt-ltb, le-ltb}
use lib.ListN.{length, take, drop, length-drop}
use lib.Seq.{length-take-le}
use Rattle.table_layout.specs.Layout.{entry_at, row_bytes, rows_of, body_bytes, start_of, end_of, part_of, part_at, body_of, body_at, row_in, row_in_at, Laid}
use Rattle.table_layout.specs.declared.Kind.{Kind}
use Rattle.table_layout.specs.declared.Kind.TheVariants.{Group, Connection, Route, Destination}

pub product_small : (i z : ℕ) → i < 65536 → z ≤ 16 → i * z ≤ 1048576
product_small i z h k = mul-le-mul (le_of_lt h) k

-- a part that fits, and one that does not
module _ (s : List ℕ) (at n : ℕ) where
  pub part-fits : at + n ≤ length s → part_of s at n ≡ take n (drop at s)
  unfolding part_of
  part-fits h = rw (le-leb (at + n) (length s) h)

  pub part_range : at + n ≤ length s → take (at + n - at) (drop at s) ≡ part_of s at n
  part_range h = rw (add-sub_cancel_left) (sym (part-fits h))

  pub part_out : length s < at + n → [] ≡ part_of s at n
  unfolding part_of
  part_out h = rw (lt-leb (at + n) (length s) h)

  -- where it stands: behind a place p by `at`, as the code adds it, or at the front
  pub part-there : (p : ℕ × ℕ) → at + n ≤ length s → (p.0, at + p.1) ≡ behind p (part_at s at n)
  unfolding part_at
  part-there p h = rw (le-leb (at + n) (length s) h) (at-behind p at)

  pub part-front : (p : ℕ × ℕ) → length s < at + n → p ≡ behind p (part_at s at n)
  unfolding part_at
  part-front p h = rw (lt-leb (at + n) (length s) h) (at_front p)

  pub part_length : at + n ≤ length s → length (part_of s at n) ≡ n
  part_length h = ap length (part-fits h) ∙ length-take-le n (drop at s) (omega (arith, length-drop at s))

-- row i of n ends within its body
pub row_below : (i rows n : ℕ) → i < rows → i * n + n ≤ rows * n
row_below i rows n h = rw (← suc-mul i n) (mul-le-mul_right n h)

module _ (n : ℕ) (body : List ℕ) (i : ℕ) where
  pub row-in : i < length body / n → i * n + n ≤ length body
  row-in h = le_trans (row_below i (length body / n) n h) (div-mul-le_self (length body) n)

  pub row_is : i < length body / n → row_in n body i ≡ take n (drop (i * n) body)
  unfolding row_in
  row_is h = rw (lt-ltb i (length body / n) h)

  -- `&body[i * n..i * n + n]` is row i of the body
  pub row_range : i < length body / n → take (i * n + n - i * n) (drop (i * n) body) ≡ row_in n body i
  row_range h = rw (add-sub_cancel_left) (sym (row_is h))

  pub row_none : length body / n ≤ i → [] ≡ row_in n body i
  unfolding row_in
  row_none h = rw (le-ltb i (length body / n) h)

  -- where it stands
  pub row-there : (p : ℕ × ℕ) → i < length body / n → (p.0, i * n + p.1) ≡ behind p (row_in_at n body i)
  unfolding row_in_at
  row-there p h = rw (lt-ltb i (length body / n) h) (at-behind p (i * n))

  pub row-front : (p : ℕ × ℕ) → length body / n ≤ i → p ≡ behind p (row_in_at n body i)
  unfolding row_in_at
  row-front p h = rw (le-ltb i (length body / n) h) (at_front p)

pub row_zero : (body : List ℕ) (i n : ℕ) → n ≡ 0 → [] ≡ row_in n body i
row_zero body i n z = row_none n body i (rw (z, div-zero) (omega arith))

pub row-front-zero : (body : List ℕ) (i n : ℕ) (p : ℕ × ℕ) → n ≡ 0 → p ≡ behind p (row_in_at n body i)
row-front-zero body i n p z = row-front n body i p (rw (z, div-zero) (omega arith))

-- a number within the first n bytes is the one in the whole
pub be-taken : (w n : ℕ) (s : List ℕ) (at : ℕ) → at + w ≤ n → be w (take n s) at ≡ be w s at
be-taken w n s at h = be-part w n s 0 at h ∙ ap (be w s) (zero-add at)

-- the contents stand in a front of 36 bytes
pub front_long : (s : List ℕ) → 36 ≤ length s → 36 ≡ length (take 36 s)
front_long s h = sym (length-take-le 36 s h)

-- and name the same rows there
pub front-rows : (s : List ℕ) (k : Kind) → rows_of (take 36 s) k ≡ rows_of s k
unfolding rows_of
front-rows s k = be-taken 2 36 s (entry_at k + 2) (inside k)
  where
    inside : (k : Kind) → entry_at k + 2 + 2 ≤ 36
    inside Group = omega arith
    inside Connection = omega arith
    inside Route = omega arith
    inside Destination = omega arith

-- in an image that is laid out every body stands within it
module _ (s : List ℕ) (l : Laid s) where
  -- its contents name where each body starts
  pub start-named : (k : Kind) (at : ℕ) → at ≡ be 4 (take 36 s) (entry_at k + 4) → at ≡ start_of s k
  start-named k at e = e ∙ be-taken 4 36 s (entry_at k + 4) (inside k) ∙ l.starts k
    where
      inside : (k : Kind) → entry_at k + 4 + 4 ≤ 36
      inside Group = omega arith
      inside Connection = omega arith
      inside Route = omega arith
      inside Destination = omega arith

  pub body-within : (k : Kind) → start_of s k + body_bytes s k ≤ length s
  unfolding start_of end_of
  body-within Group = omega (arith, l.whole)
  body-within Connection = omega (arith, l.whole)
  body-within Route = omega (arith, l.whole)
  body-within Destination = omega (arith, l.whole)

  -- by its bounds: it ends within the image, `&image[at..end]` is the body, and where it stands
  module _ (k : Kind) (at end : ℕ) (ea : at ≡ start_of s k) (ee : end ≡ start_of s k + body_bytes s k) where
    pub body_from : at ≤ end
    body_from = omega arith

    pub body-ends : end ≤ length s
    body-ends = omega (arith, body-within k)

    end_is : end ≡ at + body_bytes s k
    end_is = omega arith

    within : at + body_bytes s k ≤ length s
    within = omega (arith, body-within k)

    pub body_range : take (end - at) (drop at s) ≡ body_of s k
    unfolding body_of
    body_range =
        ap (λ (x : ℕ). take (x - at) (drop at s)) end_is ∙ part_range s at (body_bytes s k) within ∙ ap (λ (x : ℕ). part_of s x (body_bytes s k)) ea

    pub body-there : (p : ℕ × ℕ) → (p.0, at + p.1) ≡ behind p (body_at s k)
    unfolding body_at
    body-there p = part-there s at (body_bytes s k) p within ∙ ap (λ (x : ℕ). behind p (part_at s x (body_bytes s k))) ea

  pub body-length : (k : Kind) → length (body_of s k) ≡ body_bytes s k
  unfolding body_of
  body-length k = part_length s (start_of s k) (body_bytes s k) (body-within k)

  -- and has as many rows as the contents say
  pub body-rows : (k : Kind) → length (body_of s k) / row_bytes s k ≡ rows_of s k
  unfolding body_bytes
  body-rows k = ap (λ (n : ℕ). n / row_bytes s k) (body-length k) ∙ mul-div_cancel (rows_of s k) (some k)
    where
      some : (k : Kind) → 0 < row_bytes s k
      some Group = omega arith
      some Connection = omega arith
      some Route = omega arith
      some Destination = omega arith

  pub laid-rows : (k : Kind) (body : List ℕ) → body ≡ body_of s k → length body / row_bytes s k ≡ rows_of s k
  laid-rows k body e = ap (λ (b : List ℕ). length b / row_bytes s k) e ∙ body-rows k
