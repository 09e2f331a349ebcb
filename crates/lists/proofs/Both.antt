-- The sides of a test.
use mathlib.Core.Path.{◌≡◌, refl, sym}
use mathlib.Core.Bool.{Bool, true, false, ◌&&◌, ◌||◌, false≢true}

-- a test that is not true
pub impossible : {P : Type 0} → false ≡ true → P
impossible p = absurd (false≢true p)

pub and_left : (a b : Bool) → (a && b) ≡ true → a ≡ true
and_left true b p = refl
and_left false b p = p

pub and_right : (a b : Bool) → (a && b) ≡ true → b ≡ true
and_right true b p = p
and_right false true p = refl
and_right false false p = p

pub and3 : (a b c : Bool) → a && b && c ≡ true → (a ≡ true) × (b ≡ true) × (c ≡ true)
and3 a b c e = let ab = and_left (a && b) c e in (and_left a b ab, and_right a b ab, and_right (a && b) c e)

pub and4 : (a b c d : Bool) → a && b && c && d ≡ true → (a ≡ true) × (b ≡ true) × (c ≡ true) × (d ≡ true)
and4 a b c d e = let f = and3 a b c (and_left (a && b && c) d e) in (f.0, f.1, f.2, and_right (a && b && c) d e)

pub and_both : {a b : Bool} → a ≡ true → b ≡ true → (a && b) ≡ true
and_both p q = rw p q

pub and_first : (a b : Bool) → a ≡ false → (a && b) ≡ false
and_first a b p = rw p

pub and_second : (a b : Bool) → b ≡ false → (a && b) ≡ false
and_second true b p = p
and_second false b p = refl

pub neither : (a b : Bool) → (a || b) ≡ false → (a ≡ false) × (b ≡ false)
neither true b h = impossible (sym h)
neither false b h = (refl, h)
