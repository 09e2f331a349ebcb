-- One append: its own connection's record and bytes, and those of all others.
use Prim.Native.Nat.{ℕ, ◌+◌, ◌*◌, ◌<◌, ◌≤◌}
use mathlib.Core.Path.{◌≡◌, sym, ap, subst, ◌∙◌}
use mathlib.Core.List.{List, ◌++◌}
use native.Mathlib.Omega.{arith}
use lib.ListN.{length, take, drop, length-set}
use lib.Seq.{take-take, get_or-set_same, get_or-set_other}
use Rattle.connection.specs.declared.Connection.{Connection}
use Rattle.connection.specs.Connection.{zero_record}
use Rattle.send_destination.specs.Destination.{sent_of}
use Rattle.frame.specs.Frame.{frame}
use Rattle.send_outbox.proofs.Laid.{frame-length}
use Rattle.table_rows.specs.declared.DestinationRow.{DestinationRow}
use Rattle.state.specs.State.{record_at}
use Rattle.state.specs.Memory.{stretch}
use Rattle.state.proofs.Stretch.{stretch-apart}
use Rattle.send.specs.Send.{Sending, append_of}
use Rattle.send_waiting.specs.Waiting.{waiting_of}
use Rattle.wire.specs.Lay.{lay}
use Rattle.wire.proofs.Lay.{lay-length, lay-held}
use Rattle.law_waits.specs.Waits.{waits}

-- sixteen records, send memory of its length, and room in the connection's stretch
pub record RoomThere (d : DestinationRow) (payload : List ℕ) (x : Sending) : Type 0 where
  pub sixteen : length x.state.connections ≡ 16
  pub long : length x.memory ≡ 23552
  pub small : d.connection < 16
  pub fits : (record_at x.state d.connection).used + 8 + length payload ≤ 1472

module _ (d : DestinationRow) (payload : List ℕ) (x : Sending) where
  pub append_other : (k : ℕ) → (d.connection ≡ k → ⊥) → record_at (append_of d payload x).state k ≡ record_at x.state k
  unfolding append_of
  append_other k ne = get_or-set_other x.state.connections d.connection k _ zero_record (λ e. ne (sym e))

  pub append-sixteen : length x.state.connections ≡ 16 → length (append_of d payload x).state.connections ≡ 16
  unfolding append_of
  append-sixteen h = length-set x.state.connections d.connection _ ∙ h

  pub append-long : length (append_of d payload x).memory ≡ length x.memory
  unfolding append_of
  append-long = lay-length x.memory _ (frame d.id payload)

  module _ (r : RoomThere d payload x) where
    pub append-own : record_at (append_of d payload x).state d.connection
        ≡ sent_of d ((record_at x.state d.connection).used + 8 + length payload) (record_at x.state d.connection)
    unfolding append_of
    append-own = get_or-set_same x.state.connections d.connection _ zero_record (omega (arith, r.sixteen, r.small))

    -- its bytes, and the frame after them
    pub held-own : take ((record_at x.state d.connection).used + 8 + length payload) (drop (d.connection * 1472) (append_of d payload x).memory)
        ≡ take (record_at x.state d.connection).used (drop (d.connection * 1472) x.memory) ++ frame d.id payload
    unfolding append_of
    held-own =
        let e : (record_at x.state d.connection).used + 8 + length payload ≡ (record_at x.state d.connection).used + length (frame d.id payload) =
        omega (arith, frame-length d.id payload) in
        ap (λ (n : ℕ). take n (drop (d.connection * 1472)
        (lay x.memory (d.connection * 1472 + (record_at x.state d.connection).used) (frame d.id payload)))) e
        ∙ lay-held x.memory (d.connection * 1472) (record_at x.state d.connection).used
        (frame d.id payload) (omega (arith, r.long, r.small, r.fits, frame-length d.id payload))

    pub waits-own : waits (append_of d payload x).state (append_of d payload x).memory d.connection
        ≡ waits x.state x.memory d.connection ++ frame d.id payload
    unfolding waiting_of
    waits-own = ap (λ (c : Connection). take c.used (drop (d.connection * 1472) (append_of d payload x).memory)) append-own ∙ held-own

    -- another's stretch, and any part of it
    pub stretch_other : (k : ℕ) → (k ≡ d.connection → ⊥) → stretch 1472 k (append_of d payload x).memory ≡ stretch 1472 k x.memory
    unfolding append_of
    stretch_other k ne = stretch-apart 1472 d.connection x.memory _ (frame d.id payload)
        (omega arith) (omega (arith, r.fits, frame-length d.id payload)) k ne

    part_other : (k b : ℕ) → b ≤ 1472 → (k ≡ d.connection → ⊥) → take b (drop (k * 1472) (append_of d payload x).memory) ≡ take b (drop (k * 1472) x.memory)
    part_other k b h ne =
        sym (take-take b 1472 (drop (k * 1472) (append_of d payload x).memory) h)
        ∙ ap (take b) (stretch_other k ne) ∙ take-take b 1472 (drop (k * 1472) x.memory) h

    pub waits_other : (k : ℕ) → (record_at x.state k).used ≤ 1472 → (d.connection ≡ k → ⊥)
        → waits (append_of d payload x).state (append_of d payload x).memory k ≡ waits x.state x.memory k
    unfolding waiting_of
    waits_other k h ne =
        ap (λ (c : Connection). take c.used (drop (k * 1472) (append_of d payload x).memory)) (append_other k ne)
        ∙ part_other k (record_at x.state k).used h (λ e. ne (sym e))

    pub append-fits : (k : ℕ) → (record_at x.state k).used ≤ 1472 → Dec (d.connection ≡ k) → (record_at (append_of d payload x).state k).used ≤ 1472
    append-fits k h (yes e) = subst (λ (m : ℕ). (record_at (append_of d payload x).state m).used ≤ 1472) e (rw append-own r.fits)
    append-fits k h (no ne) = rw (append_other k ne) h
