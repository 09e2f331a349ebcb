-- A TRANSMIT ON THE WORLD: each switched-on destination appends header and payload to the bytes waiting on its connection.
use Rattle.std.specs.Prelude.{ℕ, ◌+◌, cond, List, ◌++◌, length, set}
use Rattle.frame.specs.Frame.{frame}
use Rattle.lists.specs.Fold.{fold_from}
use Rattle.table_rows.specs.declared.DestinationRow.{DestinationRow}
use Rattle.table_rows.specs.Rows.{destination_of}
use Rattle.state.specs.declared.State.{State}
use Rattle.send_destination.specs.Destination.{sent_of}
use Rattle.send.specs.Verdict.{is_stored}
use Rattle.send.specs.Send.{destinations, check_of, wanted_at}
use Rattle.model.specs.World.{Held, World, held_at, state_of}

-- a connection with one frame more waiting
abbrev pub with_frame : DestinationRow → List ℕ → Held → Held
with_frame d payload h =
    record {
      connection = sent_of d (h.connection.used + 8 + length payload) h.connection;
      received = h.received;
      waiting = h.waiting ++ frame d.id payload;
    }

abbrev pub append_to : DestinationRow → List ℕ → World → World
append_to d payload w =
    record { held = set w.held d.connection (with_frame d payload (held_at w d.connection)); udp = w.udp; tcp = w.tcp }

-- destination row i, where it is of this PDU and switched on at the call (s is the state then)
unfoldable pub store_in : List ℕ → State → ℕ → List ℕ → World → ℕ → World
store_in image s pdu payload w i = cond (wanted_at image s pdu payload i) (append_to (destination_of image i) payload w) w

-- the check of all destinations, then the store at all of them, in table order
unfoldable pub transmit_in : List ℕ → ℕ → List ℕ → World → World
transmit_in image pdu payload w =
    cond (is_stored (check_of image (state_of w) pdu (length payload)))
    (fold_from (store_in image (state_of w) pdu payload) (destinations image) 0 w)
    w
