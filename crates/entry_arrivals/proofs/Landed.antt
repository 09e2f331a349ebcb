-- A datagram and an accept, as the code has them: the answer is found first, and then the record put back at its place.
use Rattle.std.proofs.Common.{Result, Ok, Err, ℕ}
use Prim.Native.Nat.{ℕ, ◌≤◌}
use mathlib.Core.Path.{◌≡◌, refl, sym, ap, ◌∙◌}
use mathlib.Core.Bool.{Bool, true}
use native.Mathlib.Omega.{arith}
use borrow.Author.Tests.{eq-eqb}
use Rattle.table_layout.specs.Layout.{rows_of, Laid}
use Rattle.table_layout.specs.declared.Kind.TheVariants.{Connection as Connections}
use Rattle.connection.specs.declared.Connection.{Connection}
use Rattle.connection.specs.declared.Remote.{Remote}
use Rattle.state.specs.State.{record_at, with_record}
use Rattle.gate.specs.Lent.{Lent}
use Rattle.gate.specs.Gate.{gate_of, through}
use Rattle.gate.proofs.Pass.{gate_laid, rows_in-sixteen}
use Rattle.select.specs.declared.NotMet.TheVariants.{Refused, Unmatched}
use Rattle.select.specs.declared.Pick.{Pick}
use Rattle.select.specs.declared.Arrived.{Arrived}
use Rattle.select.specs.Best.{found}
use Rattle.select.specs.Choose.{is_met, met_place, met_next, arrival_refused, chosen_in, arrive_of, answer_before, answer_after}
use Rattle.select.proofs.Arrivals.{landed, landed_refused, landed_is, after_is}
use Rattle.entry_arrivals.specs.Arrivals.{arrival_of}
use Rattle.connection.specs.declared.Refusal.{Refusal}
use Rattle.select.specs.declared.NotMet.{NotMet}

module _ (l : Lent) (accept : Bool) (group : ℕ) (source : Remote) where
  abbrev pub past : Result Unit Refusal → Result ℕ NotMet
  past g = through g (λ x. Err (Refused x)) (arrive_of l.image l.state accept group source).answer

  -- nobody is met but past the gate
  met-past : (g : Result Unit Refusal) → is_met (past g) ≡ true → g ≡ Ok tt
  met-past (Ok tt) p = refl
  met-past (Err r) p = let z : ◌≡◌ {A = ℕ} 0 1 = cc in absurd (omega arith)

  at_gate : (g : Result Unit Refusal) → landed l.image l.state source (past g)
      ≡ through g (arrival_refused l.state) (arrive_of l.image l.state accept group source)
  at_gate (Ok tt) = landed_is l.image l.state source accept group
  at_gate (Err r) = landed_refused l.image l.state source r

  -- the search stands between what is answered before it and after it
  module _ (asked : Result Unit Refusal) (eg : asked ≡ gate_of l) (before : Result ℕ NotMet) (eb : before
      ≡ through asked (λ x. Err (Refused x)) (answer_before l.image accept group source)) where
    before-past : before ≡ Err Unmatched → asked ≡ Ok tt
    before-past e = go asked (sym eb ∙ e)
      where
        go : (g : Result Unit Refusal) → through g (λ x. Err (Refused x)) (answer_before l.image accept group source) ≡ Err Unmatched → g ≡ Ok tt
        go (Ok tt) u = refl
        go (Err r) u = let z : ◌≡◌ {A = ℕ} 0 1 = cc in absurd (omega arith)

    pub before-laid : before ≡ Err Unmatched → Laid l.image
    before-laid e = gate_laid l (sym eg ∙ before-past e)

    pub before-most : before ≡ Err Unmatched → rows_of l.image Connections ≤ 16
    before-most e = rows_in-sixteen l (sym eg ∙ before-past e)

    pub answer-is : (b : Pick) → (before ≡ Err Unmatched → found b ≡ chosen_in l.image l.state accept group source)
        → ((before ≡ Err Unmatched → ⊥) → b.score ≡ 0) → (answer : Result ℕ NotMet) → answer ≡ answer_after before b → answer ≡ past asked
    answer-is b f idle answer ea = ea ∙ go asked before eb f idle
      where
        go : (g : Result Unit Refusal) (a : Result ℕ NotMet) → a ≡ through g (λ x. Err (Refused x)) (answer_before l.image accept group source)
            → (a ≡ Err Unmatched → found b ≡ chosen_in l.image l.state accept group source) → ((a ≡ Err Unmatched → ⊥) → b.score ≡ 0)
            → answer_after a b ≡ past g
        go (Ok tt) a e h k =
            ap (λ (x : Result ℕ NotMet). answer_after x b) e
            ∙ after_is l.image l.state accept group source b (λ u. h (e ∙ u)) (λ n. k (λ u. n (sym e
            ∙ u)))
        go (Err r) a e h k = rw (eq-eqb _ _ (k (λ u. let z : ◌≡◌ {A = Result ℕ NotMet} (Err (Refused r)) (Err Unmatched) = sym e
            ∙ u in let y : ◌≡◌ {A = ℕ} 0 1 = cc in omega arith))) e

  module _ (asked : Result Unit Refusal) (eg : asked ≡ gate_of l) (answer : Result ℕ NotMet) (ea : answer ≡ past asked) where
    pub met-laid : is_met answer ≡ true → Laid l.image
    met-laid p = gate_laid l (sym eg ∙ met-past asked (ap is_met (sym ea) ∙ p))

    -- THE EVENT
    pub arrival_is : (k : ℕ) → k ≡ met_place answer → (next : Connection) → next ≡ met_next l.image source answer (record_at l.state k)
        → ◌≡◌ {A = Arrived} (record { answer = answer; state = with_record k next l.state }) (arrival_of l accept group source)
    unfolding arrival_of
    arrival_is k ek next en =
        ap (λ (c : Connection). record { answer = answer; state = with_record k c l.state }) en
        ∙ ap
        (λ (n : ℕ). record { answer = answer; state = with_record n (met_next l.image source answer (record_at l.state n)) l.state }) ek
        ∙ ap (landed l.image l.state source) (ea ∙ ap past eg)
        ∙ at_gate (gate_of l)
