-- WHEN EACH NUMBER IS GIVEN (R4.1, R4.2): the checks of each event in their order.
use Rattle.std.specs.Prelude.{ℕ, zero, suc, ◌+◌, Bool, true, false, cond, not, ◌&&◌, ◌||◌, List, [], ◌∷◌, eqb, leb, ltb, length}
use Rattle.lists.specs.Search.{every}
use Rattle.table_layout.specs.Layout.{rows_of}
use Rattle.table_layout.specs.declared.Kind.TheVariants.{Connection as Connections, Group}
use Rattle.table_rows.specs.declared.DestinationRow.{DestinationRow}
use Rattle.table_rows.specs.Rows.{group_of, connection_of, destination_of}
use Rattle.switches.specs.Switches.{is_on}
use Rattle.connection.specs.declared.Config.{Config}
use Rattle.connection.specs.declared.Connection.{Connection}
use Rattle.connection.specs.declared.Remote.{Remote}
use Rattle.connection.specs.Connection.{is_online, equal_fields, wild_fields, wildcard}
use Rattle.connection.specs.Event.{known, allowed}
use Rattle.state.specs.State.{record_at}
use Rattle.state.specs.Fresh.{config_of}
use Rattle.gate.specs.Sound.{sound_state}
use Rattle.select.specs.Choose.{matches, member_counts, member, protocol_of}
use Rattle.send.specs.Send.{destinations}
use Rattle.model.specs.Events.{change, segment, walk, take_waiting, datagram, accept, tick, transmit, switch_all, read_count, clear_count, Event, on, on_whole}
use Rattle.model_refines.specs.Machine.{Machine}

-- one check: whether it fails, and the number that is then given
pub record Check : Type 0 where
  pub fails : Bool
  pub number : ℕ

abbrev pub check : Bool → ℕ → Check
check fails number = record { fails = fails; number = number }

-- the number of the first that fails; 0, done, where none does
unfoldable pub first_failing : List Check → ℕ
first_failing [] = 0
first_failing (c ∷ cs) = cond c.fails c.number (first_failing cs)

module _ (image : List ℕ) (m : Machine) where
  -- the row and the record of connection k
  abbrev pub row_here : ℕ → Config
  row_here k = config_of image k

  abbrev pub here : ℕ → Connection
  here k = record_at m.state k

  -- 11, lent memory of another length; 12, state or table not sound: of every event (R4.3)
  abbrev pub first : List Check → List Check
  first own = check (not (eqb (length m.rx) 23424) || not (eqb (length m.tx) 23552)) 11 ∷ check (not (sound_state image m.state)) 12 ∷ own

  -- 2, the number is not there (R4.4): of a connection event, the connection
  abbrev pub first_of : ℕ → List Check → List Check
  first_of k own = first (check (leb (rows_of image Connections) k) 2 ∷ own)

  -- switch numbers go from 0 to 31
  abbrev pub no_switch : ℕ → Check
  no_switch number = check (ltb 31 number) 2

  -- 4: not online, or with close wanted
  abbrev pub not_online : ℕ → Check
  not_online k = check (not (is_online (here k).mode) || (here k).close_wanted) 4

  -- R8.10: a protocol other than 1 or 2 gets 3
  abbrev pub no_protocol : ℕ → Check
  no_protocol protocol = check (not (eqb protocol 1 || eqb protocol 2)) 3

  -- A DATAGRAM (accept false) OR AN ACCEPT (accept true)
  module _ (accept : Bool) (group : ℕ) (source : Remote) where
    -- connection i: a member that counts, and both fields match
    abbrev pub matching : ℕ → Bool
    matching i =
        member image m.state accept group source i && member_counts accept (here i)
        && matches (equal_fields (here i).remote source) (wild_fields (here i).remote)

    -- R7.1, R7.2, R7.5: 2; 3 for a group of the other protocol or a source with a wildcard; 10 where no connection matches
    abbrev pub arrives : List Check
    arrives =
        check (leb (rows_of image Group) group) 2
        ∷ check (not (eqb (group_of image group).protocol (protocol_of accept)) || wildcard source) 3
        ∷ check (every (λ i. not (matching i)) 16) 10
        ∷ []

  -- A TRANSMIT of len bytes for a PDU
  module _ (pdu len : ℕ) where
    abbrev pub destination_here : ℕ → DestinationRow
    destination_here i = destination_of image i

    -- destination i has this PDU; it is on (R5.3) at the call
    abbrev pub has : ℕ → Bool
    has i = eqb (destination_here i).pdu pdu

    abbrev pub switched_on : ℕ → Bool
    switched_on i = is_on (destination_here i).groups (here (destination_here i).connection).switches

    -- 5: no destination has this PDU (R10.1)
    abbrev pub nowhere : Check
    nowhere = check (every (λ i. not (has i)) (destinations image)) 5

    -- 6: every destination of the PDU is off (R10.1)
    abbrev pub all_off : Check
    all_off = check (every (λ i. not (has i) || not (switched_on i)) (destinations image)) 6

    -- 7: the payload is longer than the destination allows (R10.2)
    abbrev pub payload_too_long : ℕ → Check
    payload_too_long i = check (ltb (destination_here i).longest len) 7

    -- 8: used + 8 + length exceeds the send size (R10.2)
    abbrev pub no_room : ℕ → Check
    no_room i = check (ltb (connection_of image (destination_here i).connection).size ((here (destination_here i).connection).used + 8 + len)) 8

    -- R10.2: each switched-on destination in table order for 4, then 7, then 8, all three before the next: of n rows from row i on
    abbrev pub asked : ℕ → List Check → List Check
    asked i next = cond (has i && switched_on i) (not_online (destination_here i).connection ∷ payload_too_long i ∷ no_room i ∷ next) next

    unfoldable pub asked_from : ℕ → ℕ → List Check
    asked_from zero i = []
    asked_from (suc n) i = asked i (asked_from n (suc i))

    -- R4.6, a transmit: 5, 6, then each switched-on destination
    abbrev pub transmits : List Check
    transmits = nowhere ∷ all_off ∷ asked_from (destinations image) 0

  -- THE CHECKS OF AN EVENT (R4.2): 11, 12, 2, 3, then the event's own. When a connection event is not allowed (3) is R4.5:
  -- connection/specs/Event `open_allowed`, `close_allowed` and the rest
  unfoldable pub checks_for : Event → List Check
  checks_for (on k (change e)) = first_of k (check (not (known e)) 2 ∷ check (not (allowed e (row_here k) (here k))) 3 ∷ [])
  -- a segment on a UDP connection: 3
  checks_for (on k (segment bytes)) = first_of k (check (not (row_here k).tcp) 3 ∷ not_online k ∷ [])
  -- a walk on a TCP connection, or from a place beyond the end: 3
  checks_for (on k (walk d place)) = first_of k (check ((row_here k).tcp || ltb (length d) place) 3 ∷ not_online k ∷ [])
  -- 9: the out buffer is shorter than the waiting bytes (R10.5)
  checks_for (on k (take_waiting room)) = first_of k (check (ltb room (here k).used) 9 ∷ [])
  checks_for (on_whole (datagram group source)) = first (arrives false group source)
  checks_for (on_whole (accept group source)) = first (arrives true group source)
  checks_for (on_whole tick) = first []
  checks_for (on_whole (transmit pdu payload)) = first (transmits pdu (length payload))
  checks_for (on_whole (switch_all number position)) = first (no_switch number ∷ [])
  checks_for (on_whole (read_count protocol)) = first (no_protocol protocol ∷ [])
  checks_for (on_whole (clear_count protocol)) = first (no_protocol protocol ∷ [])
