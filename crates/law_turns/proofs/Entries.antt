-- A transmit adds a frame for each of a connection's switched-on destinations, or nothing; a take hands out exactly what waited. (How many
-- bytes wait after every other event: crate law_waits, proofs/Turns.)
use Rattle.std.proofs.Common.{Result, Ok, Err}
use Prim.Native.Nat.{ℕ, ◌+◌, ◌*◌, ◌<◌, ◌≤◌}
use mathlib.Core.Path.{◌≡◌, refl, sym, ap, ◌∙◌}
use mathlib.Core.Bool.{Bool, true, false, cond}
use mathlib.Core.List.{List, [], ◌++◌, append-nil}
use native.Mathlib.Omega.{arith}
use lib.ListN.{length, drop, length-drop}
use lib.Seq.{length-take-le}
use borrow.Author.Tests.{le-ltb}
use Rattle.connection.specs.declared.Refusal.{Refusal}
use Rattle.table.specs.Accepts.{Accepts}
use Rattle.table.proofs.Facts.{accepted_facts}
use Rattle.gate.specs.Lent.{Loan, sizes}
use Rattle.gate.specs.Gate.{gate_of, gate_at, through}
use Rattle.gate.specs.Sound.{records_sound}
use Rattle.gate.proofs.Pass.{gate_passed, gate_at-passed, in_sixteen}
use Rattle.state.specs.State.{record_at}
use Rattle.wire.specs.Lay.{lay}
use Rattle.wire.proofs.Lay.{lay-fits}
use Rattle.send.specs.Verdict.{is_stored}
use Rattle.send.specs.Send.{destinations, sending, store_all, check_of, transmit_of, transmitted_of}
use Rattle.send_waiting.specs.Waiting.{waiting_of, out_of}
use Rattle.entry_send.specs.Sending.{not_sent, send_of, sent_memory, taken_out}
use Rattle.entry_send.proofs.Past.{ready_from}
use Rattle.law_waits.specs.Waits.{waits, added_to, frames_from, adds, turned}
use Rattle.law_waits.proofs.Held.{waits-after}
use Rattle.law_keeps.proofs.Transmitted.{all_fit}

-- a transmit, seen from connection k
pub transmit-turn : (l : Loan) (pdu : ℕ) (payload : List ℕ) → length l.state.connections ≡ 16
    → records_sound l.image l.state.connections ≡ true → (k : ℕ)
    → waits (send_of l pdu payload).state (sent_memory l pdu payload) k
    ≡ turned (adds (through (gate_of (sizes l)) (λ r. []) (added_to l.image l.state pdu payload k))) (waits l.state l.tx k)
unfolding send_of sent_memory transmit_of added_to
transmit-turn l pdu payload sixteen h k = go (gate_of (sizes l)) refl
  where
    inner : Accepts l.image → length l.tx ≡ 23552 → (b : Bool) → is_stored (check_of l.image l.state pdu (length payload)) ≡ b
        → waits (cond b (store_all l.image l.state pdu payload l.tx) (sending l.state l.tx)).state
        (cond b (store_all l.image l.state pdu payload l.tx) (sending l.state l.tx)).memory k
        ≡ waits l.state l.tx k ++ cond b (frames_from l.image l.state pdu payload k (destinations l.image) 0) []
    inner a long true e = waits-after l.image (ready_from l.image a) l.state pdu payload l.tx sixteen long (all_fit l.image a l.state h) e k
    inner a long false e = sym (append-nil (waits l.state l.tx k))

    go : (q : Result Unit Refusal) → gate_of (sizes l) ≡ q
        → waits (through q (not_sent l.state) (transmitted_of l.image l.state pdu payload l.tx)).state
        (through q (λ (r : Refusal). l.tx) (transmit_of l.image l.state pdu payload l.tx).memory) k
        ≡ waits l.state l.tx k
        ++ through q (λ (r : Refusal). [])
        (cond (is_stored (check_of l.image l.state pdu (length payload))) (frames_from l.image l.state pdu payload k (destinations l.image) 0) [])
    go (Err r) e = sym (append-nil (waits l.state l.tx k))
    go (Ok tt) e =
        let p = gate_passed (sizes l) e in
        inner (accepted_facts l.image p.table) p.send (is_stored (check_of l.image l.state pdu (length payload))) refl

-- so many bytes wait as are used
pub waits-length : (tx : List ℕ) (n used : ℕ) → n < 16 → length tx ≡ 23552 → used ≤ 1472 → length (waiting_of tx n used) ≡ used
unfolding waiting_of
waits-length tx n used l long fits = length-take-le used (drop (n * 1472) tx) (omega (arith, length-drop (n * 1472) tx))

-- past the gate, where they fit: what waited stands at the front of the out buffer, and the bytes after it stay
pub taken-bytes : (l : Loan) (n : ℕ) (out : List ℕ) → records_sound l.image l.state.connections ≡ true → gate_at (sizes l) n ≡ Ok tt
    → (record_at l.state n).used ≤ length out
    → taken_out l n out ≡ waits l.state l.tx n ++ drop (record_at l.state n).used out
unfolding taken_out out_of
taken-bytes l n out h e room = rw (e, le-ltb _ _ room) fronted
  where
    m : length (waits l.state l.tx n) ≡ (record_at l.state n).used
    m =
        let p = (gate_at-passed (sizes l) n e).0 in
        waits-length l.tx n (record_at l.state n).used (in_sixteen (sizes l) n e)
        p.send (all_fit l.image (accepted_facts l.image p.table) l.state h n)

    fronted : lay out 0 (waits l.state l.tx n) ≡ waits l.state l.tx n ++ drop (record_at l.state n).used out
    fronted =
        let z : 0 + length (waits l.state l.tx n) ≡ (record_at l.state n).used = omega (arith, m) in
        lay-fits out 0 (waits l.state l.tx n) (omega (arith, m)) ∙ ap (λ (u : ℕ). waits l.state l.tx n ++ drop u out) z
