-- Bytes laid over others leave each byte elsewhere.
use Prim.Native.Nat.{ℕ, ◌+◌, ◌-◌, ◌≤◌, ◌<◌}
use mathlib.Core.Path.{◌≡◌, sym, ap, ◌∙◌}
use mathlib.Core.List.{List, ◌++◌}
use native.Mathlib.Omega.{arith}
use native.Mathlib.Decide.{dec_le, dec_lt}
use lib.ListN.{length, take, drop, length-append, length-drop}
use lib.Seq.{get_or-take, get_or-drop, length-take-le}
use Rattle.wire.specs.Be.{byte_at}
use Rattle.wire.specs.Lay.{lay}
use Rattle.wire.proofs.Lay.{lay-length, lay-before, lay-after, lay-own, lay-out}
use Rattle.receive_stream.proofs.Takes.{lay-front}
use Rattle.theorem_writes.specs.Writes.{Within}

-- the byte at a place, by the part that begins there
byte-front : (l : List ℕ) (i : ℕ) → byte_at l i ≡ byte_at (take 1 (drop i l)) 0
byte-front l i =
    let e : i ≡ i + 0 = omega arith in
    ap (byte_at l) e ∙ sym (get_or-drop i l 0 0) ∙ sym (get_or-take 1 (drop i l) 0 0 (omega arith))

pub lay_other : (d : List ℕ) (at : ℕ) (x : List ℕ) (i : ℕ) → (Within at (length x) i → ⊥) → byte_at (lay d at x) i ≡ byte_at d i
lay_other d at x i out = byte-front (lay d at x) i ∙ ap (λ (l : List ℕ). byte_at l 0) (go (dec_lt i at) (dec_lt i (at + length x))) ∙ sym (byte-front d i)
  where
    go : Dec (i < at) → Dec (i < at + length x) → take 1 (drop i (lay d at x)) ≡ take 1 (drop i d)
    go (yes lt) q = lay-before d at x i 1 (omega arith)
    go (no ge) (yes lt) = absurd (out (omega arith, lt))
    go (no ge) (no ge') = ap (take 1) (lay-after d at x i (omega arith))

-- a part of n bytes, laid over within itself and put back
pub part_other : (d : List ℕ) (base n at : ℕ) (x : List ℕ) (i : ℕ) → base + n ≤ length d → (Within (base + at) (length x) i → ⊥)
    → byte_at (lay d base (lay (take n (drop base d)) at x)) i ≡ byte_at d i
part_other d base n at x i fits out = go (dec_lt i base) (dec_lt i (base + n))
  where
    part : List ℕ
    part = take n (drop base d)

    y : List ℕ
    y = lay part at x

    long : length y ≡ n
    long = lay-length part at x ∙ length-take-le n (drop base d) (omega (arith, length-drop base d))

    -- within the part
    inside : (l : List ℕ) → base ≤ i → i < base + n → byte_at l i ≡ byte_at (take n (drop base l)) (i - base)
    inside l lo hi =
        let e : i ≡ base + (i - base) = omega arith in
        ap (byte_at l) e ∙ sym (get_or-drop base l (i - base) 0) ∙ sym (get_or-take n (drop base l) (i - base) 0 (omega arith))

    back : take n (drop base (lay d base y)) ≡ y
    back = ap (λ (k : ℕ). take k (drop base (lay d base y))) (sym long) ∙ lay-own d base y (omega (arith, long))

    go : Dec (i < base) → Dec (i < base + n) → byte_at (lay d base y) i ≡ byte_at d i
    go (yes lt) q = lay_other d base y i (λ (w : Within base (length y) i). omega arith)
    go (no ge) (no ge') = lay_other d base y i (λ (w : Within base (length y) i). omega (arith, long))
    go (no ge) (yes lt) =
        inside (lay d base y) (omega arith) lt
        ∙ ap (λ (l : List ℕ). byte_at l (i - base)) back
        ∙ lay_other part at x (i - base) (λ (w : Within at (length x) (i - base)). out (omega arith, omega arith))
        ∙ sym (inside d (omega arith) lt)

-- bytes laid behind those at the front, which stay
pub lay-behind : (d : List ℕ) (at : ℕ) (x : List ℕ) → at ≤ length d → lay d 0 (take at d ++ x) ≡ lay d at x
lay-behind d at x h = go (dec_le (at + length x) (length d))
  where
    long : length (take at d ++ x) ≡ at + length x
    long = length-append (take at d) x ∙ ap (λ (k : ℕ). k + length x) (length-take-le at d h)

    go : Dec (at + length x ≤ length d) → lay d 0 (take at d ++ x) ≡ lay d at x
    go (yes fits) = sym (lay-front d at x fits)
    go (no not) = lay-out d 0 (take at d ++ x) (omega (arith, long)) ∙ sym (lay-out d at x (omega arith))
