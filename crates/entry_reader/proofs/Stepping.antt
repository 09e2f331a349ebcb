-- A reader that is moved from answer to answer.
use Prim.Native.Nat.{ℕ, zero, suc, ◌+◌, ◌≤◌}
use mathlib.Core.Path.{◌≡◌, refl, sym, ap, ap₂, ◌∙◌, subst}
use mathlib.Core.Bool.{cond, Bool, true, false, not}
use mathlib.Core.List.{List, map}
use native.Mathlib.Omega.{arith}
use lib.Dec.{leb}
use lib.ListN.{length, get_or, drop}
use borrow.Author.Tests.{le-leb, leb-true}
use denote.Ref.{Bor}
use Rattle.lists.proofs.Both.{and_left, and_right, and_both}
use Rattle.reading.specs.Feed.{Routes, Pdu, as_out}
use Rattle.frame.specs.Frame.{Sent, frames}
use Rattle.reading.specs.Routed.{Routed}
use Rattle.table_layout.specs.Layout.{body_of}
use Rattle.table_layout.specs.declared.Kind.TheVariants.{Route as RouteRows}
use Rattle.connection.specs.declared.Connection.{Connection}
use Rattle.connection.specs.Connection.{zero_record}
use Rattle.state.specs.declared.State.{State}
use Rattle.state.specs.Fresh.{config_of}
use Rattle.receive_route.specs.Route.{lookup_of}
use Rattle.reading_walk.specs.Walk.{walk_at, walks, list_of}
use Rattle.reading_walk.proofs.Steps.{next-within, walk-list}
use Rattle.reading_walk.proofs.Trip.{round_trip}
use Rattle.receive_datagram.specs.declared.Walked.{Walked}
use Rattle.receive_datagram.specs.Datagram.{walk_outcome, stepped, walked_of}
use Rattle.gate.specs.Lent.{Lent, next}
use Rattle.gate.specs.Gate.{gate_of, gate_at}
use Rattle.gate.specs.Sound.{sound_state}
use Rattle.entry_receive.specs.declared.DatagramWalked.{DatagramWalked}
use Rattle.entry_receive.specs.Answer.{is_done, judged_answer}
use Rattle.entry_receive.specs.Walk.{walked_at, walk_on, none_walked, walk_allowed, walk_answer, walk_of}
use Rattle.entry_receive.specs.Routes.{routes_in}
use Rattle.entry_receive.proofs.Answers.{done_clear}
use Rattle.entry_receive.proofs.Keeps.{walk-records}
use Rattle.entry_reader.specs.declared.DatagramReader.{DatagramReader}
use Rattle.entry_reader.specs.Reader.{opened, moved_to, answer_at, tell_of, read_all}
use Rattle.entry_reader.proofs.Payload.{told_is}

-- A REFUSAL gives no PDU, the reader's own place and the state as it was
pub refused-stays : (r : DatagramReader) (l : Lent) (k : ℕ) → is_done (walk_answer l k r.datagram.now r.place) ≡ false
    → answer_at r l k ≡ none_walked l.state r.place (walk_answer l k r.datagram.now r.place)
unfolding walk_of
refused-stays r l k h =
    ap
    (λ (b : Bool).
    cond b (walk_on l.image l.state k r.datagram.now r.place) (none_walked l.state r.place (walk_answer l k r.datagram.now r.place)))
    h

-- so a reader that is moved to the next place is the reader as it was
pub refused_reader : (r : DatagramReader) (l : Lent) (k : ℕ)
    → is_done (walk_answer l k r.datagram.now r.place) ≡ false → moved_to r (answer_at r l k).next ≡ r
refused_reader r l k h = ap (λ (a : DatagramWalked). moved_to r a.next) (refused-stays r l k h)

module _ (l : Lent) (k : ℕ) (d : List ℕ) where
  -- what refuses a walk is told by the records, not by the counts
  by_records : (t : State) (allowed : Bool) → t.connections ≡ l.state.connections → judged_answer (next l t) k allowed ≡ judged_answer l k allowed
  unfolding judged_answer gate_at gate_of sound_state
  by_records t allowed e = ap (λ (cs : List Connection). judged_answer (next l (record { connections = cs; udp_drops = 0; tcp_drops = 0 })) k allowed) e

  module _ (p : ℕ) (done : is_done (walk_answer l k d p) ≡ true) where
    allows : walk_allowed l.image k d p ≡ true
    allows = (done_clear l k (walk_allowed l.image k d p) done).allows

    within : p ≤ length d
    within = leb-true p (length d) (and_right (not (config_of l.image k).tcp) (leb p (length d)) allows)

    -- a walk that nothing refuses is not refused at a later place either
    still_done : (t : State) (q : ℕ) → t.connections ≡ l.state.connections → q ≤ length d → is_done (walk_answer (next l t) k d q) ≡ true
    still_done t q e le =
        let allowed : walk_allowed l.image k d q ≡ true =
        and_both (and_left (not (config_of l.image k).tcp) (leb p (length d)) allows) (le-leb q (length d) le) in
        ap is_done (by_records t (walk_allowed l.image k d q) e ∙ ap (judged_answer l k) (allowed ∙ sym allows)) ∙ done

    goes_on : walk_of l k d p ≡ walk_on l.image l.state k d p
    unfolding walk_of
    goes_on = rw done

-- from the state of a loan on, whose records every later one has
module _ (l : Lent) (k : ℕ) (x : Bor (List ℕ)) where
  abbrev d : List ℕ
  d = x.now

  abbrev R : Routes
  R = routes_in l.image l.state k

  module _ (s : State) (p : ℕ) (e : s.connections ≡ l.state.connections) (done : is_done (walk_answer (next l s) k d p) ≡ true) where
    abbrev w : DatagramWalked
    w = walk_of (next l s) k d p

    walked-is : walked_at l.image s k d p ≡ stepped (walk_at R d p)
    unfolding walked_of
    walked-is = ap (λ (cs : List Connection). stepped (walk_at (lookup_of (body_of l.image RouteRows) k (get_or cs k zero_record).switches) d p)) e

    outcome-is : w.outcome ≡ walk_outcome (walk_at R d p).found
    unfolding walk_on
    outcome-is = ap (λ (a : DatagramWalked). a.outcome) (goes_on (next l s) k d p done) ∙ ap (λ (a : Walked). a.outcome) walked-is

    next-is : w.next ≡ (walk_at R d p).next
    unfolding walk_on
    next-is = ap (λ (a : DatagramWalked). a.next) (goes_on (next l s) k d p done) ∙ ap (λ (a : Walked). a.next) walked-is

    next_done : is_done (walk_answer (next l w.state) k d w.next) ≡ true
    next_done =
        still_done (next l s) k d p done w.state w.next (walk-records (next l s) k d p)
        (subst (λ (q : ℕ). q ≤ length d) (sym next-is) (next-within R d p (within (next l s) k d p done)))

  -- each answer is the definition's step
  reads-walk : (f p : ℕ) (s : State) → s.connections ≡ l.state.connections → is_done (walk_answer (next l s) k d p) ≡ true
      → read_all f (moved_to (opened x) p) (next l s) k ≡ walks R f d p
  unfolding read_all walks
  reads-walk zero p s e done = refl
  reads-walk (suc f) p s e done =
      let later : read_all f (moved_to (opened x) (w s p e done).next) (next l (w s p e done).state) k ≡ walks R f d (walk_at R d p).next =
      reads-walk f (w s p e done).next (w s p e done).state (walk-records (next l s) k d p ∙ e) (next_done s p e done)
      ∙ ap (walks R f d) (next-is s p e done) in
      ap₂ (tell_of d) (outcome-is s p e done) later ∙ told_is R d p (walks R f d (walk_at R d p).next) (within (next l s) k d p done)

-- A READER THAT IS NOT REFUSED gives, answer after answer from its place on, the list of the rest of its datagram: by lengths alone, as the definition says it
pub reads-rest : (l : Lent) (k : ℕ) (x : Bor (List ℕ)) (p f : ℕ) → is_done (walk_answer l k x.now p) ≡ true → length x.now ≤ p + f
    → read_all f (moved_to (opened x) p) l k ≡ list_of (routes_in l.image l.state k) (drop p x.now)
reads-rest l k x p f done enough =
    reads-walk l k x f p l.state refl done ∙ walk-list (routes_in l.image l.state k) f x.now p (within l k x.now p done) enough

-- and from the start the list of the whole datagram
pub reads_all : (l : Lent) (k : ℕ) (x : Bor (List ℕ)) (f : ℕ) → is_done (walk_answer l k x.now 0) ≡ true → length x.now ≤ f
    → read_all f (opened x) l k ≡ list_of (routes_in l.image l.state k) x.now
reads_all l k x f done enough = reads-rest l k x 0 f done (omega (arith, enough))

-- What the sender framed into one datagram, for routes that take it, the reader gives back: same PDUs, same order
pub reads-frames : (l : Lent) (k : ℕ) (x : Bor (List ℕ)) {ss : List Sent} {ps : List Pdu} → Routed (routes_in l.image l.state k) ss ps → x.now ≡ frames ss
    → is_done (walk_answer l k x.now 0) ≡ true → read_all (length ss) (opened x) l k ≡ map as_out ps
reads-frames l k x {ss} {ps} routed e done =
    reads-walk l k x (length ss) 0 l.state refl done
    ∙ ap (λ (bytes : List ℕ). walks (routes_in l.image l.state k) (length ss) bytes 0) e
    ∙ round_trip (routes_in l.image l.state k) routed
