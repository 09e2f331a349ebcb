-- HOW MANY BYTES THE ANSWERS HAVE: 6 at most, a walk's 20, a take of waiting bytes 25 and the bytes.
use Rattle.std.proofs.Common.{Result, Ok, Err, ℕ}
use Prim.Native.Nat.{ℕ, ◌+◌, ◌≤◌}
use mathlib.Core.Path.{◌≡◌, refl}
use mathlib.Core.Bool.{Bool, true, false, cond}
use mathlib.Core.List.{List}
use native.Mathlib.Omega.{arith}
use lib.Dec.{ltb}
use lib.ListN.{length, take, replicate, length-append, length-take, length-replicate}
use Rattle.reading.specs.Reasons.{reason_number}
use Rattle.wire.specs.Lay.{lay}
use Rattle.wire.proofs.Lay.{lay-length}
use Rattle.wire.proofs.Spell.{length-spell}
use Rattle.connection.specs.declared.Connection.{Connection}
use Rattle.connection.specs.Event.{refusal_number}
use Rattle.state.specs.State.{record_at}
use Rattle.gate.specs.Lent.{Loan, sizes}
use Rattle.gate.specs.Gate.{gate_at, through}
use Rattle.receive_datagram.specs.declared.Outcome.{Outcome}
use Rattle.receive_datagram.specs.declared.Outcome.TheVariants.{End, Pdu, Drop}
use Rattle.select.specs.declared.NotMet.TheVariants as Arrived
use Rattle.send.specs.declared.NotSent.TheVariants as Sent
use Rattle.send_waiting.specs.declared.NotTaken.TheVariants as Took
use Rattle.send_waiting.specs.Waiting.{waiting_of, out_of}
use Rattle.entry_send.specs.Sending.{taken_out}
use Rattle.event_answer.specs.Answers.{refused, done_with}
use Rattle.event_answer.proofs.Chain.{length-waiting}
use Rattle.dispatch_events.specs.Events.{told_bytes, failed_byte, loss_bytes, ticks_bytes, count_bytes}
use Rattle.dispatch_receive.specs.Walk.{or_refused, walk_bytes}
use Rattle.dispatch_receive.proofs.Written.{length-step, length-pdu}
use Rattle.dispatch_send.specs.Send.{arrival_bytes, transmission_bytes, taking_bytes, room_of}
use Rattle.connection.specs.declared.Refusal.{Refusal}
use Rattle.entry_receive.specs.declared.NotReceived.{NotReceived}
use Rattle.entry_receive.specs.declared.NotReceived.TheVariants as Received
use Rattle.select.specs.declared.NotMet.{NotMet}
use Rattle.send.specs.declared.NotSent.{NotSent}
use Rattle.send_waiting.specs.declared.NotTaken.{NotTaken}
use Rattle.connection.specs.declared.Remote.{Remote}

refused_size : (number place : ℕ) → length (refused number place) ≡ 6
refused_size number place = simp (length-append, length-spell)

with_size : (w v : ℕ) → length (done_with w v) ≡ 2 + w
with_size w v = simp (length-append, length-spell)

pub told_size : (a : Result Unit Refusal) → length (told_bytes a) ≤ 6
told_size (Ok tt) = omega (arith, length-spell 2 0)
told_size (Err r) = omega (arith, refused_size (refusal_number r) 0)

pub loss_size : (a : Result Unit Refusal) (failed : Bool) → length (loss_bytes a failed) ≤ 6
loss_size (Ok tt) failed = omega (arith, with_size 1 (failed_byte failed))
loss_size (Err r) failed = omega (arith, refused_size (refusal_number r) 0)

pub ticks_size : (a : Result Unit Refusal) (failed : ℕ) → length (ticks_bytes a failed) ≤ 6
ticks_size (Ok tt) failed = omega (arith, with_size 2 failed)
ticks_size (Err r) failed = omega (arith, refused_size (refusal_number r) 0)

pub count_size : (a : Result ℕ Refusal) → length (count_bytes a) ≤ 6
count_size (Ok v) = omega (arith, with_size 4 v)
count_size (Err r) = omega (arith, refused_size (refusal_number r) 0)

pub arrival_size : (a : Result ℕ NotMet) → length (arrival_bytes a) ≤ 6
arrival_size (Ok k) = omega (arith, with_size 1 k)
arrival_size (Err (Arrived.Refused r)) = omega (arith, refused_size (refusal_number r) 0)
arrival_size (Err Arrived.Unmatched) = omega (arith, refused_size 10 0)

pub transmission_size : (a : Result Unit NotSent) → length (transmission_bytes a) ≤ 6
transmission_size (Ok tt) = omega (arith, length-spell 2 0)
transmission_size (Err (Sent.Refused r)) = omega (arith, refused_size (refusal_number r) 0)
transmission_size (Err Sent.NoDestination) = omega (arith, refused_size 5 0)
transmission_size (Err Sent.SwitchedOff) = omega (arith, refused_size 6 0)
transmission_size (Err (Sent.RefusedAt number destination)) = omega (arith, refused_size number destination)

walk_size : (next : ℕ) (o : Outcome) → length (walk_bytes next o) ≤ 20
walk_size next End = omega (arith, length-step next 0 0 0 0)
walk_size next (Pdu route id at n) = omega (arith, length-pdu next route id n at)
walk_size next (Drop reason id n) = omega (arith, length-step next 2 (reason_number reason) id n)

pub walked_size : (a : Result Unit NotReceived) (next : ℕ) (o : Outcome) → length (or_refused a (walk_bytes next o)) ≤ 20
walked_size (Ok tt) next o = walk_size next o
walked_size (Err (Received.Refused r)) next o = omega (arith, refused_size (refusal_number r) 0)
walked_size (Err Received.NotReceiving) next o = omega (arith, refused_size 4 0)

-- the waiting bytes are no more than the call's own buffer, which has 1,472 at most
pub taking_size : (a : Result (ℕ × Remote) NotTaken) (buffer : List ℕ) → length (taking_bytes a buffer) ≤ 25 + length buffer
taking_size (Ok (count, remote)) buffer = omega (arith, length-waiting remote (take count buffer), length-take count buffer)
taking_size (Err (Took.Refused r)) buffer = omega (arith, refused_size (refusal_number r) 0)
taking_size (Err Took.Short) buffer = omega (arith, refused_size 9 0)

out_size : (c : Connection) (bytes out : List ℕ) → length (out_of c bytes out) ≡ length out
unfolding out_of
out_size c bytes out = go (ltb (length out) c.used)
  where
    go : (b : Bool) → length (cond b out (lay out 0 bytes)) ≡ length out
    go true = refl
    go false = lay-length out 0 bytes

pub taken_size : (l : Loan) (n : ℕ) (out : List ℕ) → length (taken_out l n out) ≡ length out
unfolding taken_out
taken_size l n out = go (gate_at (sizes l) n)
  where
    go : (g : Result Unit Refusal) → length (through g (λ r. out) (out_of (record_at l.state n) (waiting_of l.tx n (record_at l.state n).used) out))
        ≡ length out
    go (Ok tt) = out_size (record_at l.state n) (waiting_of l.tx n (record_at l.state n).used) out
    go (Err r) = refl

pub buffer_size : (n : ℕ) → length {A = ℕ} (take (room_of n) (replicate 1472 0)) ≤ 1472
buffer_size n = omega (arith, length-take {A = ℕ} (room_of n) (replicate 1472 0), length-replicate {A = ℕ} 1472 0)
