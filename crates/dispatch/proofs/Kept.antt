-- MEMORY THAT IS LENT AND NOT WRITTEN: where a definition's effect leaves both memories, or receive memory, so does its refusal of a short
-- out buffer.
use Prim.Native.Nat.{ℕ}
use mathlib.Core.Path.{◌≡◌, refl}
use mathlib.Core.Bool.{Bool}
use mathlib.Core.List.{List}
use lib.ListN.{take, replicate}
use Rattle.connection.specs.declared.Event.{Event}
use Rattle.connection.specs.declared.Remote.{Remote}
use Rattle.gate.specs.Lent.{Loan, sizes}
use Rattle.entry_events.specs.Change.{event_of, loss_of}
use Rattle.entry_events.specs.Module.{switch_all_of}
use Rattle.entry_events.specs.Count.{read_of, clear_of}
use Rattle.entry_ticks.specs.Tick.{ticks_event}
use Rattle.entry_arrivals.specs.Arrivals.{datagram_of, accept_of}
use Rattle.event_answer.specs.Answers.{Effect, if_room}
use Rattle.event_answer.proofs.Short.{room_keeps}
use Rattle.dispatch_events.specs.Events.{told_effect, loss_effect, ticked, counted_effect, own_effect}
use Rattle.dispatch_events.specs.Events.{lost_effect, ticks_effect, switch_all_effect, read_effect, clear_effect}
use Rattle.dispatch_send.specs.Send.{room_of, arrived_effect, datagram_effect, accept_effect, sent_effect, transmit_effect, take_into, take_effect}

module _ (l : Loan) (out : List ℕ) where
  abbrev Kept : Effect → Type 0
  Kept e = (l.rx ≡ e.rx) × (l.tx ≡ e.tx)

  kept_rx : (e : Effect) → l.rx ≡ e.rx → l.rx ≡ (if_room l.state l.rx l.tx out e).rx
  kept_rx e h = room_keeps l.state l.rx l.tx out e (λ (x : Effect). x.rx) l.rx refl h

  kept : (e : Effect) → Kept e → Kept (if_room l.state l.rx l.tx out e)
  kept e h = (kept_rx e h.0, room_keeps l.state l.rx l.tx out e (λ (x : Effect). x.tx) l.tx refl h.1)

  pub own_kept : (c : ℕ) (e : Event) → Kept (own_effect l out c e)
  unfolding own_effect
  own_kept c e = kept (told_effect (event_of (sizes l) c e) l.rx l.tx out) (refl, refl)

  pub lost_kept : (c : ℕ) → Kept (lost_effect l out c)
  unfolding lost_effect
  lost_kept c = kept (loss_effect (loss_of (sizes l) c) l.rx l.tx out) (refl, refl)

  pub ticks_kept : (n : ℕ) → Kept (ticks_effect l out n)
  unfolding ticks_effect
  ticks_kept n = kept (ticked (ticks_event (sizes l) n) l.rx l.tx out) (refl, refl)

  pub switch_all_kept : (number : ℕ) (on : Bool) → Kept (switch_all_effect l out number on)
  unfolding switch_all_effect
  switch_all_kept number on = kept (told_effect (switch_all_of (sizes l) number on) l.rx l.tx out) (refl, refl)

  pub read_kept : (p : ℕ) → Kept (read_effect l out p)
  unfolding read_effect
  read_kept p = kept (counted_effect (read_of (sizes l) p) l.rx l.tx out) (refl, refl)

  pub clear_kept : (p : ℕ) → Kept (clear_effect l out p)
  unfolding clear_effect
  clear_kept p = kept (counted_effect (clear_of (sizes l) p) l.rx l.tx out) (refl, refl)

  pub datagram_kept : (group : ℕ) (source : Remote) → Kept (datagram_effect l out group source)
  unfolding datagram_effect
  datagram_kept group source = kept (arrived_effect (datagram_of (sizes l) group source) l.rx l.tx out) (refl, refl)

  pub accept_kept : (group : ℕ) (source : Remote) → Kept (accept_effect l out group source)
  unfolding accept_effect
  accept_kept group source = kept (arrived_effect (accept_of (sizes l) group source) l.rx l.tx out) (refl, refl)

  pub take_kept : (c n : ℕ) → Kept (take_effect l out c n)
  unfolding take_effect
  take_kept c n = kept (take_into l out c (take (room_of n) (replicate 1472 0))) (refl, refl)

  pub transmit_kept : (pdu : ℕ) (payload : List ℕ) → l.rx ≡ (transmit_effect l out pdu payload).rx
  unfolding transmit_effect
  transmit_kept pdu payload = kept_rx (sent_effect l out pdu payload) refl
