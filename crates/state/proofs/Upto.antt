-- A loop that changes the records one after the other, each by what its number says.
use Prim.Native.Nat.{ℕ, ◌+◌, ◌<◌}
use mathlib.Core.Path.{◌≡◌, sym, ap, ◌∙◌}
use native.Mathlib.Omega.{arith}
use native.Mathlib.Numerals.{add-one}
use lib.ListN.{length, get_or, set}
use Rattle.lists.specs.Each.{each, each_to}
use Rattle.lists.proofs.Each.{each_get, each_set, each_all}
use Rattle.connection.specs.declared.Connection.{Connection}
use Rattle.connection.specs.Connection.{zero_record}
use Rattle.state.specs.declared.State.{State}
use Rattle.state.specs.State.{record_at, with_records, with_record}

module _ (f : ℕ → Connection → Connection) (s : State) where
  -- the state of a loop that has changed the records below i
  abbrev pub Upto : State → ℕ → Type 0
  Upto n i = n ≡ with_records (each_to f 0 i s.connections) s

  -- record i is still the one of the start
  pub still : (n : State) (i : ℕ) → Upto n i → record_at n i ≡ record_at s i
  still n i e = ap (λ (m : State). record_at m i) e ∙ each_get f 0 i s.connections zero_record

  -- one turn more
  pub turn : (n : State) (i : ℕ) (d : Connection) → i < length s.connections → Upto n i → d ≡ f i (record_at s i) → Upto (with_record i d n) (i + 1)
  turn n i d h e p =
      let x = s.connections in
      let z : i ≡ 0 + i = omega arith in
      let q : d ≡ f (0 + i) (get_or x i zero_record) = p ∙ ap (λ (k : ℕ). f k (get_or x i zero_record)) z in
      ap (with_record i d) e
      ∙ ap (λ (c : Connection). with_records (set (each_to f 0 i x) i c) s) q
      ∙ ap (λ l. with_records l s) (each_set f 0 i x zero_record h)
      ∙ ap (λ (k : ℕ). with_records (each_to f 0 k x) s) (sym (add-one i))

  -- all of them
  pub upto_whole : (n : State) (i : ℕ) → length s.connections ≡ i → Upto n i → n ≡ with_records (each f 0 s.connections) s
  upto_whole n i l e = e ∙ ap (λ (k : ℕ). with_records (each_to f 0 k s.connections) s) (sym l) ∙ ap (λ l. with_records l s) (each_all f 0 s.connections)
