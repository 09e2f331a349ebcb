-- DEMAND 1 AND DEMAND 2 (R4.1, R4.7, R5.5, R7.5, R8.2, R10.2, R10.10, R5.17), each as one statement of a table image and a machine.
use Rattle.std.specs.Prelude.{ℕ, ◌<◌, ◌≤◌, ◌≡◌, ◌↔◌, ◌⊎◌, Bool, true, cond, length, Result, Ok, Err}
use mathlib.Core.List.{List, [], ◌++◌, flatten, map}
use Rattle.table_layout.specs.Layout.{rows_of}
use Rattle.table_layout.specs.declared.Kind.TheVariants.{Connection as Connections}
use Rattle.switches.specs.Switches.{is_on, Shared}
use Rattle.reading.specs.declared.Decision.{Decision}
use Rattle.reading.specs.Feed.{Out, fine, Pdu, as_out}
use Rattle.reading.specs.Routed.{Routed, Carried}
use Rattle.receive_part.specs.Part.{transferring}
use Rattle.connection.specs.declared.Connection.{Connection}
use Rattle.connection.specs.declared.Config.{Config}
use Rattle.connection.specs.declared.Remote.{Remote}
use Rattle.connection.specs.declared.Event.{Event as Change}
use Rattle.connection.specs.Connection.{wildcard, tick_of}
use Rattle.connection.specs.Event.{step_of}
use Rattle.state.specs.State.{record_at}
use Rattle.state.specs.Fresh.{config_of}
use Rattle.entry_arrivals.specs.Arrivals.{arrival_of}
use Rattle.entry_receive.specs.Routes.{routes_in, DecidedIn}
use Rattle.entry_send.specs.Sending.{send_of}
use Rattle.law_waits.specs.Waits.{waits, any_empties, since}
use Rattle.law_transitions.specs.Table.{place_of, happening_of, tick_happening, move}
use Rattle.model.specs.Events.{Event}
use Rattle.model_runs.specs.Streams.{RunBytes}
use Rattle.model_runs.specs.Trip.{as_segments}
use Rattle.model_refines.specs.Machine.{Machine, lent_to, loan_to}
use Rattle.model_refines.specs.Run.{after_event, after_run, given_in, Good}
use Rattle.theorems.specs.Numbers.{number_of}
use Rattle.theorems.specs.Order.{AnyCall, after_calls, given_calls, as_events}
use Rattle.theorems.specs.Refused.{Run}
use Rattle.theorems.specs.Waits.{turns_of, sent_in}
use Rattle.theorems.specs.Trip.{outgoing, Reader, Walker, as_walks}
use Rattle.theorem_answers.specs.When.{first_failing, checks_for}
use Rattle.theorem_transmit.specs.Exactly.{ExactlyWhen}
use Rattle.theorem_match.specs.Match.{Arrives}
use Rattle.select.specs.declared.NotMet.{NotMet}
use Rattle.send.specs.declared.NotSent.{NotSent}

-- DEMAND 1, of any image and any machine of sixteen records
pub record Demand1 (image : List ℕ) (m : Machine) : Type 0 where
  -- the number is that of the first check that fails
  pub number : (e : Event) → number_of image m e ≡ first_failing (checks_for image m e)
  -- a refusal changes nothing
  pub refusal : (e : Event) → (number_of image m e ≡ 0 → ⊥) → after_event image e m ≡ m
  -- calls in any order are a run of events, in what they leave and in what they give
  pub order : (cs : List AnyCall) → after_calls image m cs ≡ after_run image m (as_events image m cs)
  pub given : (i : ℕ) (cs : List AnyCall) → given_calls image i m cs ≡ given_in image i m (as_events image m cs)
  -- and a run leaves a good machine good, or is refused whole
  pub run : (es : List Event) → RunBytes es → length m.state.connections ≡ 16 → Run image m es

module _ (image : List ℕ) (m : Machine) where
  abbrev pub demanded_row : ℕ → Config
  demanded_row k = config_of image k

  abbrev pub demanded_record : ℕ → Connection
  demanded_record k = record_at m.state k

  -- DEMAND 2, of a good machine
  pub record Demand2 : Type 0 where
    -- headers: a header's decision has its reason, and what has its reason is given
    pub headers : (k id n : ℕ) (d : Decision) → (routes_in image m.state k id n ≡ d) ↔ DecidedIn image m.state k id n d
    -- switches: on when the groups are 0 or share a set bit
    pub switches : (groups word : ℕ) → (is_on groups word ≡ true) ↔ ((groups ≡ 0) ⊎ Shared groups word)
    -- selection: a datagram, an accept
    pub selection : (accept : Bool) (group : ℕ) (source : Remote) (x : Result ℕ NotMet)
        → ((arrival_of (lent_to image m) accept group source).answer ≡ x) ↔ Arrives (lent_to image m) accept group source x
    -- connection states: events and ticks move mode and wishes as the one table says
    pub states : (k : ℕ) → k < rows_of image Connections → (e : Change)
        → place_of (step_of e (demanded_row k) (demanded_record k)).connection
        ≡ move (happening_of e) (demanded_row k).tcp (demanded_row k).automatic (wildcard (demanded_record k).remote)
        (transferring (demanded_record k).part) (place_of (demanded_record k))
    pub tick_states : (k : ℕ) → k < rows_of image Connections
        → place_of (tick_of (demanded_row k) (demanded_record k))
        ≡ move (tick_happening (demanded_row k) (demanded_record k)) (demanded_row k).tcp (demanded_row k).automatic (wildcard (demanded_record k).remote)
        (transferring (demanded_record k).part) (place_of (demanded_record k))
    -- send buffers: a transmit's answer, and what waits after any run
    pub transmits : (pdu : ℕ) (payload : List ℕ) (x : Result Unit NotSent)
        → ((send_of (loan_to image m) pdu payload).answer ≡ x) ↔ ExactlyWhen (loan_to image m) pdu payload x
    pub waiting : (j : ℕ) (es : List Event) → RunBytes es
        → waits (after_run image m es).state (after_run image m es).tx j
        ≡ cond (any_empties (turns_of image j m es)) (since (turns_of image j m es)) (waits m.state m.tx j ++ since (turns_of image j m es))
    -- what is framed is read back: what a take gives out after any run, cut in any way or as one datagram, by any other good machine
    pub stream_trip : (j : ℕ) → j < rows_of image Connections → (demanded_record j).used ≡ 0 → (es : List Event) → RunBytes es → (out : List ℕ)
        → (record_at (after_run image m es).state j).used ≤ length out → (image' : List ℕ) (b : Machine) → Good image' b
        → (k : ℕ) → Reader image' b k → (ps : List Pdu) → Routed (routes_in image' b.state k) (sent_in image j m es []) ps
        → (pieces : List (List ℕ)) → flatten pieces ≡ outgoing image (after_run image m es) j out → RunBytes (as_segments k pieces)
        → given_in image' k b (as_segments k pieces) ≡ map as_out ps
    -- .. on marked routes, each as one transfer, byte by byte
    pub carried_trip : (j : ℕ) → j < rows_of image Connections → (demanded_record j).used ≡ 0 → (es : List Event) → RunBytes es → (out : List ℕ)
        → (record_at (after_run image m es).state j).used ≤ length out → (image' : List ℕ) (b : Machine) → Good image' b → (k : ℕ) → Reader image' b k
        → (os : List Out) → Carried (routes_in image' b.state k) (sent_in image j m es []) os → (pieces : List (List ℕ))
        → flatten pieces ≡ outgoing image (after_run image m es) j out → RunBytes (as_segments k pieces)
        → fine (given_in image' k b (as_segments k pieces)) ≡ fine os
    pub datagram_trip : (j : ℕ) → j < rows_of image Connections → (demanded_record j).used ≡ 0 → (es : List Event) → RunBytes es → (out : List ℕ)
        → (record_at (after_run image m es).state j).used ≤ length out → (image' : List ℕ) (b : Machine) → Good image' b
        → (k : ℕ) → Walker image' b k → (ps : List Pdu)
        → Routed (routes_in image' b.state k) (sent_in image j m es []) ps → (steps : ℕ) → length (sent_in image j m es []) ≤ steps
        → given_in image' k b (as_walks image' k (outgoing image (after_run image m es) j out) steps b 0) ≡ map as_out ps
