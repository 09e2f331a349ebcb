-- THE SHAPES OF CONTRACTS (R13.2), as what each says of an answer or of memory. That every public function's clauses have one of them is held by
-- `.ci/shapes`: one clause for the answer, and one for each slice that is lent to be written.
use Rattle.std.specs.Prelude.{ℕ, ◌≡◌, List}
use Rattle.std.specs.Borrow.{Bor}

-- an equation: `r ≡ definition`; of memory `x after ≡ definition`
abbrev pub Equation : {A : Type 0} → A → A → Type 0
Equation definition r = r ≡ definition

-- an equation with a bound beside it: `(r ≡ definition) × (r < n)`
abbrev pub WithBound : {A : Type 0} → A → (A → Type 0) → A → Type 0
WithBound definition Bound r = (r ≡ definition) × Bound r

-- an equation of the answer's number, where no two answers have one number: `number r ≡ definition`
abbrev pub ByNumber : {A : Type 0} → (A → ℕ) → ℕ → A → Type 0
ByNumber number definition r = number r ≡ definition

-- a part of a lent slice: its bytes and its place
abbrev pub PartShape : List ℕ → ℕ × ℕ → Bor (List ℕ) → Type 0
PartShape bytes place r = (r.now ≡ bytes) × (r.ref_ptr ≡ place)

-- two parts are the same when their bytes and their places are: a reference has nothing else that a program can see
pub record SamePart (x y : Bor (List ℕ)) : Type 0 where
  pub bytes : x.now ≡ y.now
  pub place : x.ref_ptr ≡ y.ref_ptr
