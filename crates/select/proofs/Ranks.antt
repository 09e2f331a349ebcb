-- R7.5 (chapter 7.5 of the standard): the four classes of a match, and the named valve before the named port.
use Rattle.std.proofs.Common.{Some}
use Prim.Native.Nat.{ℕ, ◌+◌, ◌*◌, ◌<◌}
use mathlib.Core.Path.{◌≡◌, refl, sym, ◌∙◌}
use mathlib.Core.Bool.{Bool, true, false, cond, ◌&&◌}
use mathlib.Core.List.{List, [], ◌∷◌}
use native.Mathlib.Omega.{arith}
use lib.Dec.{eqb}
use borrow.Author.Tests.{ne_eqb, eqb-true, eqb-false}
use Rattle.connection.specs.declared.Connection.{Connection}
use Rattle.connection.specs.declared.Remote.{Remote}
use Rattle.connection.specs.Connection.{equal_fields, wild_fields, wildcard}
use Rattle.state.specs.declared.State.{State}
use Rattle.state.specs.State.{record_at}
use Rattle.select.specs.Choose.{one_of, rank_of, matches, member_counts, score_of, member, score_at, chosen_in}
use Rattle.select.specs.Ranks.{ranks}
use Rattle.select.proofs.Pass.{chosen_is_best}

-- both fields 3, the address with any port 2, any address with the port 1, neither 0
pub four_classes : ranks ≡ 3 ∷ 2 ∷ 1 ∷ 0 ∷ []
unfolding rank_of
four_classes = refl

-- x, y: the two score at all; a, b: their addresses are equal; p, q: their ports are
above : (x y a b p q : Bool) → a ≡ true → b ≡ false → 0 < cond x (1 + (2 * one_of a + one_of p)) 0
    → cond y (1 + (2 * one_of b + one_of q)) 0 < cond x (1 + (2 * one_of a + one_of p)) 0
above false y a b p q e f h = absurd (omega arith)
above true false a b p q e f h = h
above true true false b p q e f h =
    let z : ◌≡◌ {A = ℕ} 0 1 = cc in
    absurd (omega arith)
above true true true true p q e f h =
    let z : ◌≡◌ {A = ℕ} 0 1 = cc in
    absurd (omega arith)
above true true true false p false e f h = omega arith
above true true true false p true e f h = omega arith

-- a wildcard is not equal to a source, which has none
pub wildcard-differs : (r source : Remote) → (wild_fields r).address ≡ true → wildcard source ≡ false → (equal_fields r source).address ≡ false
wildcard-differs r source w n = go (eqb source.address 0) refl
  where
    go : (z : Bool) → eqb source.address 0 ≡ z → (equal_fields r source).address ≡ false
    go true e =
        let z : ◌≡◌ {A = ℕ} 0 1 = cc in
        absurd (omega arith)
    go false e = ne_eqb r.address source.address (λ p. eqb-false source.address 0 e (sym p ∙ eqb-true r.address 0 w))

-- of two records the one that matches by its address ranks above one whose address is not the source's, whatever the ports are
pub named_valve_first : (accept m n : Bool) (source : Remote) (a b : Connection) → 0 < score_of accept source m a
    → (equal_fields a.remote source).address ≡ true → (equal_fields b.remote source).address ≡ false
    → score_of accept source n b < score_of accept source m a
unfolding score_of rank_of
named_valve_first accept m n source a b h p q =
    let x = m && member_counts accept a && matches (equal_fields a.remote source) (wild_fields a.remote) in
    let y = n && member_counts accept b && matches (equal_fields b.remote source) (wild_fields b.remote) in
    above x y (equal_fields a.remote source).address (equal_fields b.remote source).address (equal_fields a.remote source).port
    (equal_fields b.remote source).port p q h

-- so the chosen one bears the source's address where any matching member does
module _ (image : List ℕ) (s : State) (accept : Bool) (group : ℕ) (source : Remote) where
  pub named_valve_chosen : (k j : ℕ) → chosen_in image s accept group source ≡ Some k → j < 16
      → 0 < score_at image s accept group source j → (equal_fields (record_at s j).remote source).address ≡ true
      → (equal_fields (record_at s k).remote source).address ≡ true
  unfolding score_at
  named_valve_chosen k j e l h p = go (equal_fields (record_at s k).remote source).address refl
    where
      go : (x : Bool) → (equal_fields (record_at s k).remote source).address ≡ x → (equal_fields (record_at s k).remote source).address ≡ true
      go true q = q
      go false q =
          let below = named_valve_first accept (member image s accept group source j)
          (member image s accept group source k) source (record_at s j) (record_at s k) h p q in
          let best = (rw e at (chosen_is_best image s accept group source)).highest j l in
          absurd (omega (arith, below, best))
