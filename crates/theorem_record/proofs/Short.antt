-- CALLS THAT CAN BE RECORDED: whatever is answered, arguments of so many bytes leave room for it in a body of 4,096 bytes.
use Rattle.std.proofs.Common.{Result, Ok}
use Prim.Native.Nat.{ℕ, ◌+◌, suc, ◌*◌, ◌/◌, ◌≤◌}
use mathlib.Core.Path.{◌≡◌, refl, ap}
use mathlib.Core.Bool.{Bool, true, false}
use mathlib.Core.List.{List, [], ◌∷◌}
use native.Mathlib.Omega.{arith}
use lib.Dec.{eqb}
use lib.ListN.{length, take, drop, replicate, length-append, length-drop}
use Rattle.wire.specs.Be.{be}
use Rattle.connection.specs.declared.Event.{Event}
use Rattle.connection.specs.declared.Remote.{Remote}
use Rattle.connection.specs.declared.Event.TheVariants.{Open, Close, Connected, SetRemote, Switch, Cancel}
use Rattle.gate.specs.Lent.{Loan, sizes}
use Rattle.entry_events.specs.Change.{event_of, loss_of}
use Rattle.entry_events.specs.Module.{switch_all_of}
use Rattle.entry_events.specs.Count.{read_of, clear_of}
use Rattle.entry_arrivals.specs.Arrivals.{datagram_of, accept_of}
use Rattle.entry_receive.specs.Walk.{walk_of}
use Rattle.entry_send.specs.Sending.{send_of, taken_waiting, taken_out}
use Rattle.event_decode.specs.declared.Call.{Call}
use Rattle.event_decode.specs.declared.BadCall.{BadCall}
use Rattle.event_decode.specs.declared.Call.TheVariants.{Own, Lost, Segment, Walk, TakeWaiting, Datagram, Accept, Transmit, SwitchAll, ReadCount, ClearCount}
use Rattle.event_decode.specs.Calls.{remote_in, call_of, bytes_from}
use Rattle.dispatch_receive.specs.Segment.{none_marked}
use Rattle.dispatch_receive.proofs.Room.{event-fits, plain_fits}
use Rattle.dispatch_send.specs.Send.{room_of}
use Rattle.dispatch.proofs.Sizes.{told_size, loss_size, count_size, arrival_size, transmission_size, walked_size, taking_size, taken_size, buffer_size}
use Rattle.dispatch_refines.specs.Answer.{answer_of}
use Rattle.dispatch_refines.proofs.Answer.{segment-named}
use Rattle.model_refines.specs.Machine.{Machine, machine, loan_to}
use Rattle.state.specs.Fresh.{fresh_state}
use Rattle.recording.specs.Recording.{distance_in, stamps, most_entries}
use Rattle.recording.specs.Entry.{is_recorded, is_spelt}
use Rattle.theorem_record.specs.Record.{Notable, AllNotable, Near, Recordable}
use Rattle.theorem_record.specs.Again.{Timed, after_ticks, after_note, answer_to, recorded, recorded_fresh}
use Rattle.theorem_record.specs.Again.{segment_arguments, most_arguments, Callable, Followed, AllCallable}
use Rattle.theorem_record.proofs.Numbers.{by_call, plain-long, told_long}

-- ANSWERS: of a segment event at most 1,503 bytes and 32 for every nine of the segment; where no route is marked, 1,502 and 3 for each
module _ (l : Loan) (a : List ℕ) where
  abbrev Below : ℕ → Result Call BadCall → Type 0
  Below k call = length (answer_of l a call) ≤ k

  segment_below : (c at : ℕ) → Below (1503 + 32 * length (drop at a) / 9) (Ok (Segment c at))
  unfolding answer_of
  segment_below c at = omega (arith, event-fits l c (bytes_from a at), ap length (segment-named l c (bytes_from a at)))

  plain_below : none_marked l.image ≡ true → (c at : ℕ) → Below (1502 + 3 * length (drop at a)) (Ok (Segment c at))
  unfolding answer_of
  plain_below none c at = omega (arith, plain_fits l c (bytes_from a at) none, ap length (segment-named l c (bytes_from a at)))

  waiting_below : (c n : ℕ) → Below 1497 (Ok (TakeWaiting c n))
  unfolding answer_of
  waiting_below c n =
      let buffer : List ℕ = take (room_of n) (replicate 1472 0) in
      omega (arith, taking_size (taken_waiting l c buffer).answer (taken_out l c buffer), taken_size l c buffer, buffer_size n)

  walk_below : (c place at : ℕ) → Below 20 (Ok (Walk c place at))
  unfolding answer_of
  walk_below c place at = let w = walk_of (sizes l) c (bytes_from a at) place in walked_size w.answer w.next w.outcome

  own_below : (c : ℕ) (e : Event) → Below 6 (Ok (Own c e))
  unfolding answer_of
  own_below c e = told_size (event_of (sizes l) c e).answer

  lost_below : (c : ℕ) → Below 6 (Ok (Lost c))
  unfolding answer_of
  lost_below c = loss_size (loss_of (sizes l) c).answer (loss_of (sizes l) c).failed

  datagram_below : (group : ℕ) (source : Remote) → Below 6 (Ok (Datagram group source))
  unfolding answer_of
  datagram_below group source = arrival_size (datagram_of (sizes l) group source).answer

  accept_below : (group : ℕ) (source : Remote) → Below 6 (Ok (Accept group source))
  unfolding answer_of
  accept_below group source = arrival_size (accept_of (sizes l) group source).answer

  transmit_below : (pdu at : ℕ) → Below 6 (Ok (Transmit pdu at))
  unfolding answer_of
  transmit_below pdu at = transmission_size (send_of l pdu (bytes_from a at)).answer

  switches_below : (number : ℕ) (position : Bool) → Below 6 (Ok (SwitchAll number position))
  unfolding answer_of
  switches_below number position = told_size (switch_all_of (sizes l) number position).answer

  read_below : (protocol : ℕ) → Below 6 (Ok (ReadCount protocol))
  unfolding answer_of
  read_below protocol = count_size (read_of (sizes l) protocol).answer

  clear_below : (protocol : ℕ) → Below 6 (Ok (ClearCount protocol))
  unfolding answer_of
  clear_below protocol = count_size (clear_of (sizes l) protocol).answer

  -- with its arguments
  abbrev Fills : Result Call BadCall → Type 0
  Fills call = length a + length (answer_of l a call) ≤ 4096

  six : (call : Result Call BadCall) → length a ≤ 4076 → Below 6 call → Fills call
  six call h b = omega (arith, h, b)

  -- .. of a segment, the bytes of which stand behind the first six
  segment_fills : (c : ℕ) → 6 ≤ length a → length a ≤ segment_arguments (none_marked l.image) → Fills (Ok (Segment c 6))
  segment_fills c long h = go (none_marked l.image) refl h
    where
      go : (b : Bool) → none_marked l.image ≡ b → length a ≤ segment_arguments b → Fills (Ok (Segment c 6))
      go true none q = omega (arith, q, long, plain_below none c 6, length-drop 6 a)
      go false some q = omega (arith, q, long, segment_below c 6, length-drop 6 a)

call_fills : (n : ℕ) → is_recorded n ≡ true → (a : List ℕ) → is_spelt (call_of n a) ≡ true
    → (l : Loan) → length a ≤ most_arguments l.image n → Fills l a (call_of n a)
unfolding most_arguments
call_fills =
    by_call (λ n a call. (l : Loan) → length a ≤ most_arguments l.image n → Fills l a call)
    (λ a t l h. six l a _ h (own_below l a (be 1 a 1) Open))
    (λ a t l h. six l a _ h (own_below l a (be 1 a 1) Close))
    (λ a t l h. six l a _ h (own_below l a (be 1 a 1) Connected))
    (λ a t l h. six l a _ h (lost_below l a (be 1 a 1)))
    (λ a t l h. six l a _ h (own_below l a (be 1 a 1) (SetRemote (remote_in (drop 2 a)))))
    (λ a t l h. six l a _ h (own_below l a (be 1 a 1) (Switch (be 1 a 2) (eqb (be 1 a 3) 1))))
    (λ a t l h. segment_fills l a (be 1 a 1) (omega (arith, told_long a 2 t)) h)
    (λ a t l h. omega (arith, h, walk_below l a (be 1 a 1) (be 4 a 2) 10))
    (λ a t l h. omega (arith, plain-long a 6 t, waiting_below l a (be 1 a 1) (be 4 a 2)))
    (λ a t l h. six l a _ h (datagram_below l a (be 1 a 1) (remote_in (drop 2 a))))
    (λ a t l h. six l a _ h (accept_below l a (be 1 a 1) (remote_in (drop 2 a))))
    (λ a t l h. six l a _ h (transmit_below l a (be 2 a 1) 7))
    (λ a t l h. six l a _ h (switches_below l a (be 1 a 1) (eqb (be 1 a 2) 1)))
    (λ a t l h. six l a _ h (read_below l a (be 1 a 1)))
    (λ a t l h. six l a _ h (clear_below l a (be 1 a 1)))
    (λ a t l h. six l a _ h (own_below l a (be 1 a 1) Cancel))

-- SO THE ENTRY OF SUCH A CALL can be recorded, from any machine
module _ (image : List ℕ) where
  notable : (before : ℕ) (m : Machine) (c : Timed) → Callable image c
      → Notable (record { stamp = c.stamp; number = c.number; arguments = c.arguments; answer = answer_to image c.number c.arguments m })
  notable before m c h =
      let answer : List ℕ = answer_to image c.number c.arguments m in
      record {
        event = h.event;
        spells = h.spells;
        bytes = h.bytes;
        in_width = h.in_width;
        short = omega (arith, length-append c.arguments answer, call_fills c.number h.event c.arguments h.spells (loan_to image m) h.roomy);
      }

  abbrev later : ℕ → Machine → Timed → Machine
  later before m c = after_ticks image (distance_in stamps before c.stamp) m

  abbrev left : ℕ → Machine → Timed → Machine
  left before m c = after_note image c.number c.arguments (later before m c)

  each_notable : (before : ℕ) (m : Machine) (cs : List Timed) → Followed image before cs → AllNotable (recorded image before m cs)
  unfolding recorded
  each_notable before m [] h = tt
  each_notable before m (c ∷ cs) (here, (near, h)) = (notable before (later before m c) c here, each_notable c.stamp (left before m c) cs h)

  stays-near : (before : ℕ) (m : Machine) (cs : List Timed) → Followed image before cs → Near before (recorded image before m cs)
  unfolding recorded
  stays-near before m [] h = tt
  stays-near before m (c ∷ cs) (here, (near, h)) = (near, stays-near c.stamp (left before m c) cs h)

  recorded-long : (before : ℕ) (m : Machine) (cs : List Timed) → length (recorded image before m cs) ≡ length cs
  unfolding recorded
  recorded-long before m [] = refl
  recorded-long before m (c ∷ cs) = ap suc (recorded-long c.stamp (left before m c) cs)

-- CALLS FROM A FRESH STATE, 4,000 at most: their entries can be recorded
pub calls_recordable : (image rx tx : List ℕ) (cs : List Timed) → length cs ≤ most_entries → AllCallable image cs → Recordable (recorded_fresh image rx tx cs)
unfolding recorded
calls_recordable image rx tx [] few h = record { entries = few; each = tt; near = tt }
calls_recordable image rx tx (c ∷ cs) few (here, h) =
    let m : Machine = machine (fresh_state image) rx tx in
    record {
      entries = omega (arith, few, recorded-long image c.stamp (left image c.stamp m c) cs);
      each = (notable image c.stamp (later image c.stamp m c) c here, each_notable image c.stamp (left image c.stamp m c) cs h);
      near = stays-near image c.stamp (left image c.stamp m c) cs h;
    }
