-- The answer before anything is read: what each case says, and what is known when nothing refuses.
use Rattle.std.proofs.Common.{Result, Ok, Err}
use Prim.Native.Nat.{ℕ, ◌%◌, ◌<◌}
use mathlib.Core.Path.{◌≡◌, refl, sym, ap, ap₂, ◌∙◌}
use mathlib.Core.Bool.{Bool, true, false, cond, not, ◌&&◌}
use native.Mathlib.Omega.{arith}
use borrow.Author.Tests.{not-true, not-false}
use Rattle.lists.proofs.Both.{impossible}
use mathlib.Core.List.{List}
use Rattle.table_layout.specs.Layout.{rows_of, body_of}
use Rattle.table_layout.specs.declared.Kind.TheVariants.{Group as Groups, Connection as Connections}
use Rattle.table_rows.specs.Rules.{group_tcp, tcp_in}
use Rattle.connection.specs.declared.Connection.{Connection}
use Rattle.connection.specs.declared.Refusal.TheVariants.{Denied}
use Rattle.connection.specs.Connection.{is_online}
use Rattle.state.specs.State.{record_at}
use Rattle.state.specs.Fresh.{config_of}
use Rattle.gate.specs.Lent.{Lent}
use Rattle.gate.specs.Gate.{gate_at, through, Passed}
use Rattle.gate.proofs.Pass.{gate_at-passed}
use Rattle.connection.specs.Event.{receiving}
use Rattle.entry_receive.specs.declared.NotReceived.TheVariants.{Refused, NotReceiving}
use Rattle.entry_receive.specs.Answer.{is_done, judged_of, answer_past, stream_past, judged_answer}
use Rattle.entry_receive.proofs.Past.{below_sixteen}
use Rattle.connection.specs.declared.Refusal.{Refusal}
use Rattle.entry_receive.specs.declared.NotReceived.{NotReceived}

-- WHAT IS KNOWN WHEN NOTHING REFUSES
pub record Clear (l : Lent) (n : ℕ) (allowed : Bool) : Type 0 where
  pub passed : Passed l
  pub there : n < rows_of l.image Connections
  pub allows : allowed ≡ true
  pub receives : receiving (record_at l.state n) ≡ true

judged_clear : (allowed : Bool) (c : Connection) → is_done (judged_of allowed c) ≡ true → (allowed ≡ true) × (receiving c ≡ true)
unfolding judged_of
judged_clear allowed c p = go allowed (receiving c) refl refl p
  where
    go : (a b : Bool) → allowed ≡ a → receiving c ≡ b
        → is_done (cond a (cond b (Ok tt) (Err NotReceiving)) (Err (Refused Denied))) ≡ true → (allowed ≡ true) × (receiving c ≡ true)
    go true true e f q = (e, f)
    go true false e f q = impossible q
    go false b e f q = impossible q

pub done_clear : (l : Lent) (n : ℕ) (allowed : Bool) → is_done (judged_answer l n allowed) ≡ true → Clear l n allowed
unfolding judged_answer
done_clear l n allowed p = go (gate_at l n) refl p
  where
    go : (g : Result Unit Refusal) → gate_at l n ≡ g → is_done (through g (λ x. Err (Refused x)) (judged_of allowed (record_at l.state n))) ≡ true
        → Clear l n allowed
    go (Ok tt) e q =
        let g : Passed l × (n < rows_of l.image Connections) = gate_at-passed l n e in
        let j : (allowed ≡ true) × (receiving (record_at l.state n) ≡ true) = judged_clear allowed (record_at l.state n) q in
        record { passed = g.0; there = g.1; allows = j.0; receives = j.1 }
    go (Err r) e q = impossible q

-- an answer that is done is no other
pub is-done : (a : Result Unit NotReceived) → is_done a ≡ true → a ≡ Ok tt
is-done (Ok tt) e = refl
is-done (Err (Refused r)) e = impossible e
is-done (Err NotReceiving) e = impossible e

-- the three cases past the gate
module _ (allowed : Bool) (c : Connection) where
  pub judged_denied : not allowed ≡ true → Err (Refused Denied) ≡ judged_of allowed c
  unfolding judged_of
  judged_denied p = rw (not-true allowed p)

  pub judged_done : (online : Bool) → not allowed ≡ false → online ≡ is_online c.mode → (online && not c.close_wanted) ≡ true → Ok tt ≡ judged_of allowed c
  unfolding judged_of
  judged_done online p e q =
      let r : receiving c ≡ true = ap (λ (b : Bool). b && not c.close_wanted) (sym e) ∙ q in
      rw (not-false allowed p, r)

  pub judged_not : (online : Bool) → not allowed ≡ false → online ≡ is_online c.mode
      → (online && not c.close_wanted) ≡ false → Err NotReceiving ≡ judged_of allowed c
  unfolding judged_of
  judged_not online p e q =
      let r : receiving c ≡ false = ap (λ (b : Bool). b && not c.close_wanted) (sym e) ∙ q in
      rw (not-false allowed p, r)

-- the gate passes only numbers below sixteen: the record of the number modulo 16 is the connection's own
module _ (l : Lent) (n : ℕ) (allowed : Bool) where
  pub own_record : gate_at l n ≡ Ok tt → n % 16 ≡ n
  own_record e =
      let p : Passed l × (n < rows_of l.image Connections) = gate_at-passed l n e in
      let small : n < 16 = below_sixteen l.image p.0.table n p.1 in
      omega arith

  past_is : (g : Result Unit Refusal) → gate_at l n ≡ g → answer_past g allowed (record_at l.state (n % 16)) ≡ answer_past g allowed (record_at l.state n)
  past_is (Ok tt) e = ap (λ (k : ℕ). judged_of allowed (record_at l.state k)) (own_record e)
  past_is (Err r) e = refl

  pub answer-is : (asked : Result Unit Refusal) → asked ≡ gate_at l n → (c : Connection) → c ≡ record_at l.state (n % 16)
      → (a : Result Unit NotReceived) → a ≡ answer_past asked allowed c → a ≡ judged_answer l n allowed
  unfolding judged_answer
  answer-is asked ea c ec a e =
      e ∙ ap₂ (λ (g : Result Unit Refusal) (x : Connection). answer_past g allowed x) ea ec ∙ past_is (gate_at l n) refl

-- what the gate refuses is refused whatever the protocol: it may be asked for past the gate
pub past-stream : (asked : Result Unit Refusal) (allows : Bool → Bool) (tcp : Bool) (c : Connection)
    → answer_past asked (allows (stream_past asked tcp)) c ≡ answer_past asked (allows tcp) c
past-stream (Ok tt) allows tcp c = refl
past-stream (Err r) allows tcp c = refl

-- a connection's protocol, out of the bodies of connections and groups
pub stream-is : (image : List ℕ) (n : ℕ) (connections : List ℕ) → connections ≡ body_of image Connections → (groups : List ℕ) → groups ≡ body_of image Groups
    → (b : Bool) → b ≡ tcp_in 2 groups 16 connections n → b ≡ (config_of image n).tcp
unfolding config_of tcp_in group_tcp
stream-is image n connections ec groups eg b e = e ∙ ap₂ (λ (g cs : List ℕ). tcp_in 2 g 16 cs n) eg ec
