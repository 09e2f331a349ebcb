-- WHAT IS WRITTEN STANDS IN THE STRETCH OF ITS OWN CONNECTION (R2.7).
use Rattle.std.proofs.Common.{Result, Ok, Err}
use Prim.Native.Nat.{ℕ, ◌+◌, ◌-◌, ◌*◌, ◌≤◌, ◌<◌}
use mathlib.Core.Path.{◌≡◌, refl, sym, ap₂, subst}
use mathlib.Core.Bool.{Bool, true, false}
use mathlib.Core.List.{List}
use native.Mathlib.Omega.{arith}
use lib.ListN.{length}
use Rattle.lists.proofs.Both.{impossible}
use Rattle.reading.specs.Feed.{Cell, cell, transfer, header, payload, skip, Out, nothing, pdu, dropped, start, piece}
use Rattle.reading_lengths.specs.Listed.{Bytes}
use Rattle.reading_lengths.proofs.Bytes.{bytes_drop}
use Rattle.table_layout.specs.Layout.{body_of}
use Rattle.table_layout.specs.declared.Kind.TheVariants.{Route as Routes}
use Rattle.table_rows.specs.Rows.{destination_of}
use Rattle.receive_route.specs.Route.{lookup_of}
use Rattle.receive_part.specs.declared.Part.{Part}
use Rattle.receive_part.specs.declared.Part.TheVariants.{Header, Payload, Skip, Transfer}
use Rattle.connection.specs.declared.Connection.{Connection}
use Rattle.state.specs.State.{record_at}
use Rattle.state.specs.Memory.{stretch}
use Rattle.receive_stream.specs.declared.Outcome.{Outcome}
use Rattle.receive_stream.specs.Stream.{cell_of, part_from, is_in_segment, id_of, take_outcome, took_of, taken_of, Fit}
use Rattle.receive_stream.proofs.Takes.{payload_fit, accepted-short}
use Rattle.receive_stream.proofs.Leaves.{Sane, Told, PartHolds, part_sane, take_sane}
use Rattle.entry_receive.specs.Segment.{segment_of}
use Rattle.table.proofs.Facts.{accepted_facts}
use Rattle.gate.specs.Gate.{gate_of, through}
use Rattle.gate.proofs.Pass.{gate_passed}
use Rattle.send.specs.Verdict.{is_stored}
use Rattle.send.specs.Send.{destinations, wanted_at, check_of, transmitted_of, Ready}
use Rattle.send.proofs.Room.{clear_roomy}
use Rattle.entry_send.specs.Sending.{not_sent, send_of}
use Rattle.entry_send.proofs.Past.{ready_from}
use Rattle.model.specs.World.{held_by}
use Rattle.model_refines.specs.Machine.{Machine, lent_to, loan_to, taken, after_one}
use Rattle.theorem_writes.specs.Writes.{Within, added_by, payload_held, TakeWrites, SegmentWrites, by_first_take, by_later_take, FrameWrites}
use Rattle.theorem_writes.proofs.Segment.{is_answered, takes-here, outcome-is, record_is}
use Rattle.connection.specs.declared.Refusal.{Refusal}

-- payloads of 1,464 bytes at most
abbrev Short : ℕ → ℕ → Type 0
Short r n = n ≤ 1464

-- .. and nothing of a transfer's route
abbrev Any : ℕ → Type 0
Any r = Unit {0}

-- the bytes held and those added are no more
bound : (ids : ℕ → ℕ) (inside : Bool) (held read : ℕ) (out : Out) (to : Cell) → held ≤ 1464 → Sane Short Any to → Told Short Any out to
    → held + added_by (take_outcome ids inside read out) held (held_by (part_from to)) ≤ 1464
bound ids inside held read nothing (cell n (header v)) h s t = omega arith
bound ids inside held read nothing (cell n (payload r p)) h s t = omega (arith, s.1)
bound ids inside held read nothing (cell n skip) h s t = omega arith
bound ids inside held read nothing (transfer n r) h s t = omega arith
bound ids true held read (pdu r p) to h s t = omega arith
bound ids false held read (pdu r p) to h s t = omega (arith, t.1)
bound ids inside held read (dropped k i n) to h s t = omega arith
bound ids inside held read (start r i n m) to h s t = omega arith
bound ids inside held read (piece r p m) to h s t = omega arith

module _ (routes : List ℕ) (k switches : ℕ) (part : Part) (st bytes : List ℕ) (fit : Fit routes part st) (small : Bytes bytes) where
  short : (p : Part) → Fit routes p st → (held_by p ≤ 1464) × (PartHolds Short Any p)
  short (Header held value) f = (omega arith, tt)
  short (Payload route n held) f =
      let h : (held < n) × (n ≤ length st) = payload_fit routes (Payload route n held) st f route n held refl in
      (omega (arith, f.room), omega (arith, f.room))
  short (Skip n) f = (omega arith, tt)
  short (Transfer route n) f = (omega arith, tt)

  added_fits : held_by part + added_by (taken_of routes k switches part st bytes).outcome
      (held_by part) (held_by (taken_of routes k switches part st bytes).part) ≤ 1464
  unfolding taken_of took_of
  added_fits =
      let t = took_of routes k switches part st bytes in
      let sane =
      take_sane Short Any (lookup_of routes k switches)
      (λ i n r e. accepted-short routes k switches i n r e fit.limits) (λ i n r e. tt) (cell_of part st) bytes small
      (part_sane Short Any routes part st fit (short part fit).1) in
      bound (id_of routes) (is_in_segment (cell_of part st)) (held_by part) (length bytes - length t.rest) t.out t.to (short part fit).0 sane.0 sane.1

-- RECEIVE MEMORY: the bytes of a segment, on connection k
module _ (image : List ℕ) (k i : ℕ) where
  module _ (m : Machine) (bytes : List ℕ) where
    abbrev Fits : ℕ → Type 0
    Fits n = payload_held k m + n ≤ 1464

    none_added : is_answered image k m bytes ≡ false → added_by (taken image k m bytes).outcome (payload_held k m)
        (payload_held k (after_one image k m bytes)) ≡ 0
    unfolding segment_of
    none_added e = rw e (omega arith)

    take-fits : Bytes bytes → is_answered image k m bytes ≡ true
        → Fits (added_by (taken image k m bytes).outcome (payload_held k m) (payload_held k (after_one image k m bytes)))
    take-fits small e =
        subst Fits
        (ap₂ (λ (o : Outcome) (c : Connection). added_by o (payload_held k m) (held_by c.part))
        (sym (outcome-is image k m bytes e)) (sym (record_is image k m bytes e)))
        (added_fits (body_of image Routes) k (record_at m.state k).switches (record_at m.state k).part
        (stretch 1464 k m.rx) bytes (takes-here image k m bytes e).fit small)

    take-inside : Bytes bytes → TakeWrites image k m bytes i → Within (k * 1464) 1464 i
    take-inside small w = go (is_answered image k m bytes) refl
      where
        go : (b : Bool) → is_answered image k m bytes ≡ b → Within (k * 1464) 1464 i
        go true e = (omega (arith, w), omega (arith, w, take-fits small e))
        go false e = absurd (omega (arith, w, none_added e))

  pub segment-inside : {m : Machine} {bytes : List ℕ} → SegmentWrites image k i m bytes → Bytes bytes → Within (k * 1464) 1464 i
  segment-inside (by_first_take m bytes w) small = take-inside m bytes small w
  segment-inside (by_later_take m bytes more w) small = segment-inside w (bytes_drop (taken image k m bytes).read bytes small)

-- SEND MEMORY: the frame at destination row d of a stored transmit
module _ (image : List ℕ) (m : Machine) (pdu : ℕ) (payload : List ℕ) where
  stored_past : is_stored (send_of (loan_to image m) pdu payload).answer ≡ true
      → (gate_of (lent_to image m) ≡ Ok tt) × (is_stored (check_of image m.state pdu (length payload)) ≡ true)
  unfolding send_of
  stored_past = go (gate_of (lent_to image m))
    where
      go : (g : Result Unit Refusal) → is_stored (through g (not_sent m.state) (transmitted_of image m.state pdu payload m.tx)).answer ≡ true
          → (g ≡ Ok tt) × (is_stored (check_of image m.state pdu (length payload)) ≡ true)
      go (Ok tt) e = (refl, e)
      go (Err r) e = impossible e

  pub frame-inside : (d i : ℕ) → is_stored (send_of (loan_to image m) pdu payload).answer ≡ true
      → d < destinations image → wanted_at image m.state pdu payload d ≡ true → FrameWrites image m d payload i
      → Within ((destination_of image d).connection * 1472) 1472 i
  frame-inside d i stored l wanted w =
      let p = stored_past stored in
      let ready : Ready image = ready_from image (accepted_facts image (gate_passed (lent_to image m) p.0).table) in
      (omega (arith, w), omega (arith, w, clear_roomy image m.state pdu payload p.1 ready d l wanted))
