-- A WALK OVER A DATAGRAM, through events: each step at the place that the answer before it gave, a UDP connection that is online without
-- close wanted hands out what the definition's walk does.
use Prim.Native.Nat.{ℕ, zero, suc, ◌≤◌}
use mathlib.Core.Path.{◌≡◌, refl, sym, ap, ap₂, ◌∙◌, subst}
use mathlib.Core.Bool.{true}
use mathlib.Core.List.{List, [], ◌++◌}
use native.Mathlib.Omega.{arith}
use lib.ListN.{length, get_or, drop}
use borrow.Author.Tests.{eq-eqb, le-leb, lt-ltb}
use Rattle.reading_lengths.specs.Head.{Head, ended, short, beyond, whole, head_of}
use Rattle.table_layout.specs.Layout.{body_of}
use Rattle.table_layout.specs.declared.Kind.TheVariants.{Route}
use Rattle.connection.specs.declared.Connection.{Connection}
use Rattle.connection.specs.Connection.{zero_record}
use Rattle.connection.specs.Event.{receiving}
use Rattle.receive_route.specs.Route.{lookup_of}
use Rattle.state.specs.State.{record_at}
use Rattle.reading.specs.declared.Decision.{Decision}
use Rattle.reading.specs.declared.Decision.TheVariants.{Accept, Refuse, Transfer}
use Rattle.reading.specs.Feed.{Routes}
use Rattle.reading_walk.specs.Walk.{Found, the_end, a_pdu, a_drop, Walked, walked, whole_at, walk_step, walk_at, outs_told, walks, place_after_steps}
use Rattle.reading_walk.proofs.Steps.{at_last, next-within}
use Rattle.receive_datagram.specs.declared.Walked.{Walked as Answered}
use Rattle.receive_datagram.specs.Datagram.{walk_outcome, stepped, walked_of}
use Rattle.entry_receive.specs.declared.DatagramWalked.{DatagramWalked}
use Rattle.entry_receive.specs.Answer.{is_done}
use Rattle.entry_receive.specs.Walk.{walked_at, walk_on, walk_allowed, walk_answer, walk_of}
use Rattle.entry_receive.specs.Routes.{routes_in}
use Rattle.entry_receive.proofs.Keeps.{walk-records}
use Rattle.model.specs.Events.{walk, on}
use Rattle.model_refines.specs.Machine.{Machine, lent_to}
use Rattle.model_refines.specs.Run.{told_walk, after_own, after_event, given, given_in, Good}
use Rattle.model_refines.proofs.Answered.{done_is}
use Rattle.model_refines.proofs.Good.{event_good}
use Rattle.theorems.specs.Trip.{Walker, as_walks}

-- one step's outcome
told_found : (d : List ℕ) (f : Found) → told_walk d (walk_outcome f) ≡ outs_told d f []
told_found d the_end = refl
told_found d (a_pdu r p n i) = refl
told_found d (a_drop q i n) = refl

-- steps past the end give nothing more
pub walks_more : (R : Routes) (n f : ℕ) (d : List ℕ) (p : ℕ) → n ≤ f
    → walk_at R d (place_after_steps R n d p) ≡ walked the_end (length d) → walks R f d p ≡ walks R n d p
unfolding walks place_after_steps
walks_more R zero zero d p l e = refl
walks_more R zero (suc f) d p l e = ap (λ (w : Walked). outs_told d w.found (walks R f d w.next)) e
walks_more R (suc n) zero d p l e = absurd (omega arith)
walks_more R (suc n) (suc f) d p l e = ap (outs_told d (walk_at R d p).found) (walks_more R n f d (walk_at R d p).next (omega arith) e)

-- a step's outcome, and those of the steps after it
then_later : (R : Routes) (f : ℕ) (d : List ℕ) (p : ℕ) → outs_told d (walk_at R d p).found [] ++ walks R f d (walk_at R d p).next ≡ walks R (suc f) d p
unfolding walks walk_at place_after_steps
then_later R f d p = go (head_of (drop p d))
  where
    decided : (q : Decision) (i n : ℕ) → outs_told d (whole_at q p i n).found [] ++ walks R f d (whole_at q p i n).next
        ≡ outs_told d (whole_at q p i n).found (walks R f d (whole_at q p i n).next)
    decided (Accept r) i n = refl
    decided (Refuse k) i n = refl
    decided (Transfer r) i n = refl

    go : (h : Head) → outs_told d (walk_step R (length d) p h).found [] ++ walks R f d (walk_step R (length d) p h).next
        ≡ outs_told d (walk_step R (length d) p h).found (walks R f d (walk_step R (length d) p h).next)
    go ended = walks_more R 0 f d (length d) (omega arith) (at_last R d)
    go short = refl
    go (beyond i n) = refl
    go (whole i n) = decided (R i n) i n

module _ (image : List ℕ) (k : ℕ) (d : List ℕ) (start : Machine) (walker : Walker image start k) where
  abbrev R : Routes
  R = routes_in image start.state k

  -- a later machine, with the records of the start
  module _ (m : Machine) (good : Good image m) (same : m.state.connections ≡ start.state.connections) (p : ℕ) (within : p ≤ length d) where
    abbrev w : DatagramWalked
    w = walk_of (lent_to image m) k d p

    receives : receiving (record_at m.state k) ≡ true
    receives = ap (λ (cs : List Connection). receiving (get_or cs k zero_record)) same ∙ walker.receives

    done : is_done (walk_answer (lent_to image m) k d p) ≡ true
    done =
        done_is (lent_to image m) k (walk_allowed image k d p) good.passed
        ∙ rw (lt-ltb _ _ walker.there, walker.udp, le-leb p (length d) within) receives

    walked-is : walked_at image m.state k d p ≡ stepped (walk_at R d p)
    unfolding walked_of
    walked-is = ap (λ (cs : List Connection). stepped (walk_at (lookup_of (body_of image Route) k (get_or cs k zero_record).switches) d p)) same

    goes_on : w ≡ walk_on image m.state k d p
    unfolding walk_of
    goes_on = rw done

    outcome-is : w.outcome ≡ walk_outcome (walk_at R d p).found
    unfolding walk_on
    outcome-is = ap (λ (a : DatagramWalked). a.outcome) goes_on ∙ ap (λ (a : Answered). a.outcome) walked-is

    next-is : w.next ≡ (walk_at R d p).next
    unfolding walk_on
    next-is = ap (λ (a : DatagramWalked). a.next) goes_on ∙ ap (λ (a : Answered). a.next) walked-is

    given-here : given image k (on k (walk d p)) m ≡ outs_told d (walk_at R d p).found []
    unfolding given
    given-here = rw (eq-eqb k k refl) (ap (told_walk d) outcome-is ∙ told_found d (walk_at R d p).found)

    still-same : (after_event image (on k (walk d p)) m).state.connections ≡ start.state.connections
    unfolding after_event after_own
    still-same = walk-records (lent_to image m) k d p ∙ same

  -- ANY NUMBER OF STEPS
  pub walks-given : (f : ℕ) (m : Machine) → Good image m → m.state.connections ≡ start.state.connections → (p : ℕ)
      → p ≤ length d → given_in image k m (as_walks image k d f m p) ≡ walks (routes_in image start.state k) f d p
  unfolding given_in as_walks walks
  walks-given zero m good same p within = refl
  walks-given (suc f) m good same p within =
      ap₂ ◌++◌ (given-here m good same p within)
      (walks-given f (after_event image (on k (walk d p)) m) (event_good image m good (on k (walk d p)) tt)
      (still-same m good same p within) (w m good same p within).next
      (subst (λ (q : ℕ). q ≤ length d) (sym (next-is m good same p within)) (next-within R d p within))
      ∙ ap (λ (q : ℕ). walks R f d q) (next-is m good same p within))
      ∙ then_later R f d p
