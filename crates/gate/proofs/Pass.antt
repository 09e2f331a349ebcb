-- What is known past the gate, and what passes it.
use Rattle.std.proofs.Common.{Result, Ok, Err}
use Prim.Native.Nat.{ℕ, ◌<◌, ◌≤◌}
use mathlib.Core.Path.{◌≡◌, refl, ◌∙◌}
use mathlib.Core.Bool.{Bool, true, false, cond, not, ◌||◌}
use native.Mathlib.Omega.{arith}
use mathlib.Core.List.{List}
use lib.Dec.{eqb, ltb}
use lib.ListN.{length}
use borrow.Author.Tests.{eqb-true, eq-eqb, ltb-true, lt-ltb}
use Rattle.table_layout.specs.Layout.{rows_of, Laid}
use Rattle.table_layout.specs.declared.Kind.TheVariants.{Connection as Connections}
use Rattle.table.specs.declared.BadTable.TheVariants as Table
use Rattle.table.specs.Table.{check_table}
use Rattle.table.proofs.Facts.{accepted_facts, accepted-laid}
use Rattle.connection.specs.declared.Refusal.{Refusal}
use Rattle.connection.specs.declared.Refusal.TheVariants.{Memory, Unsound, Missing}
use Rattle.lists.proofs.Both.{and_left, and_right}
use Rattle.state.specs.declared.State.{State}
use Rattle.gate.specs.Lent.{Lent, lent, next, Loan, sizes, received, lent_after}
use Rattle.gate.specs.Sound.{records_sound, is_accepted, sound_state}
use Rattle.gate.specs.Gate.{gate_of, gate_at, then_there, Passed}
use Rattle.table.specs.declared.BadTable.{BadTable}

refused_not : {P : Type 0} (r : Refusal) → ◌≡◌ {A = Result Unit Refusal} (Err r) (Ok tt) → P
refused_not r p = absurd (let z : ◌≡◌ {A = ℕ} 0 1 = cc in omega arith)

three : (a b d : Bool) → ◌≡◌ {A = Result Unit Refusal} (cond (not a || not b) (Err Memory) (cond d (Ok tt) (Err Unsound))) (Ok tt)
    → (a ≡ true) × (b ≡ true) × (d ≡ true)
three false b d p = refused_not Memory p
three true false d p = refused_not Memory p
three true true false p = refused_not Unsound p
three true true true p = (refl, refl, refl)

accepts-is : (a : Result Unit BadTable) → is_accepted a ≡ true → a ≡ Ok tt
accepts-is (Ok tt) p = refl
accepts-is (Err (Table.At q)) p = absurd (let z : ◌≡◌ {A = ℕ} 0 1 = cc in omega arith)

-- PASSED IS BUILT HERE, and nowhere else: out of its parts; with records that are sound; by memories as long as before
pub passed_by : (l : Lent) → l.rx ≡ 23424 → l.tx ≡ 23552 → check_table l.image ≡ Ok tt
    → records_sound l.image l.state.connections ≡ true → Passed l
passed_by l rx tx table sound = record { receive = rx; send = tx; table = table; sound = sound }

-- out of the rules as one test
pub sound-passed : (l : Lent) → l.rx ≡ 23424 → l.tx ≡ 23552 → sound_state l.image l.state ≡ true → Passed l
unfolding sound_state
sound-passed l rx tx s =
    passed_by l rx tx (accepts-is (check_table l.image) (and_left (is_accepted (check_table l.image)) _ s))
    (and_right (is_accepted (check_table l.image)) _ s)

pub passed-next : (l : Lent) (t : State) → Passed l → records_sound l.image t.connections ≡ true → Passed (next l t)
passed-next l t p h = passed_by (next l t) p.receive p.send p.table h

module _ (l : Loan) (t : State) (p : Passed (sizes l)) (h : records_sound l.image t.connections ≡ true) where
  pub passed-received : (rx : List ℕ) → length rx ≡ length l.rx → Passed (sizes (received l t rx))
  passed-received rx e = passed_by (sizes (received l t rx)) (e ∙ p.receive) p.send p.table h

  pub passed-sent : (tx : List ℕ) → length tx ≡ length l.tx → Passed (sizes (lent_after l t tx))
  passed-sent tx e = passed_by (sizes (lent_after l t tx)) p.receive (e ∙ p.send) p.table h

module _ (l : Lent) where
  pub gate_passed : gate_of l ≡ Ok tt → Passed l
  unfolding gate_of
  gate_passed p =
      let g = three (eqb l.rx 23424) (eqb l.tx 23552) (sound_state l.image l.state) p in
      sound-passed l (eqb-true _ _ g.0) (eqb-true _ _ g.1) g.2

  pub passed_gate : Passed l → gate_of l ≡ Ok tt
  unfolding gate_of sound_state
  passed_gate p = rw (eq-eqb _ _ p.receive, eq-eqb _ _ p.send, p.table, p.sound)

  there : (n : ℕ) (g : Result Unit Refusal) (b : Bool) → then_there b g ≡ Ok tt → (g ≡ Ok tt) × (b ≡ true)
  there n (Ok tt) true p = (refl, refl)
  there n (Ok tt) false p = refused_not Missing p
  there n (Err r) b p = refused_not r p

  pub gate_at-passed : (n : ℕ) → gate_at l n ≡ Ok tt → Passed l × (n < rows_of l.image Connections)
  unfolding gate_at
  gate_at-passed n p =
      let t = there n (gate_of l) (ltb n (rows_of l.image Connections)) p in
      (gate_passed t.0, ltb-true _ _ t.1)

  pub passed_gate_at : (n : ℕ) → Passed l → n < rows_of l.image Connections → gate_at l n ≡ Ok tt
  unfolding gate_at
  passed_gate_at n p h = rw (passed_gate p, lt-ltb _ _ h)

-- past the gate the image is laid out
module _ (l : Lent) where
  pub passed-laid : Passed l → Laid l.image
  passed-laid p = accepted-laid l.image p.table

  pub gate_laid : gate_of l ≡ Ok tt → Laid l.image
  gate_laid p = passed-laid (gate_passed l p)

  pub gate_at-laid : (n : ℕ) → gate_at l n ≡ Ok tt → Laid l.image
  gate_at-laid n p = passed-laid (gate_at-passed l n p).0

-- either memory of another length: 11
pub gate_memory : (image : List ℕ) (s : State) (rx tx : ℕ) → (not (eqb rx 23424) || not (eqb tx 23552)) ≡ true → Err Memory ≡ gate_of (lent image s rx tx)
unfolding gate_of
gate_memory image s rx tx e = rw e

-- past the gate there are at most sixteen rows, and the connection is one of the sixteen
pub rows_in-sixteen : (l : Lent) → gate_of l ≡ Ok tt → rows_of l.image Connections ≤ 16
rows_in-sixteen l p = (accepted_facts l.image (gate_passed l p).table).most Connections

pub in_sixteen : (l : Lent) (n : ℕ) → gate_at l n ≡ Ok tt → n < 16
in_sixteen l n p =
    let g = gate_at-passed l n p in
    omega (arith, g.1, (accepted_facts l.image g.0.table).most Connections)
