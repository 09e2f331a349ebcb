-- WHO READS SEGMENTS IN THE MODEL: a closed reader, and the model's round trip applied to it, with a PDU handed out.
use Prim.Native.Nat.{ℕ}
use mathlib.Core.Path.{◌≡◌, refl, ap, ◌∙◌, subst, sym}
use mathlib.Core.List.{List, [], ◌∷◌, flatten}
use native.Mathlib.Omega.{arith}
use lib.ListN.{replicate}
use borrow.Author.Tests.{lt-ltb}
use Rattle.wire.specs.Be.{be}
use Rattle.wire.specs.Lay.{spell}
use Rattle.lists.specs.Search.{bad_from}
use Rattle.table_layout.specs.Layout.{rows_of, body_bytes, start_of, part_of, body_of, row_in}
use Rattle.table_layout.specs.declared.Kind.TheVariants.{Route}
use Rattle.table_rows.specs.Rows.{connection_row, route_row}
use Rattle.switches.specs.Switches.{is_on}
use Rattle.frame.specs.Frame.{frame, frames}
use Rattle.reading.specs.Feed.{pdu, handed}
use Rattle.reading.specs.Routed.{Routed, routed_none, routed_one}
use Rattle.reading.specs.declared.Decision.TheVariants.{Accept}
use Rattle.receive_route.specs.Route.{rows_in, counts, row_for, row_found, row_decision, lookup_of}
use Rattle.connection.specs.declared.Connection.{Connection}
use Rattle.connection.specs.Event.{receiving}
use Rattle.state.specs.State.{record_at}
use Rattle.state.specs.Fresh.{config_of, fresh_state}
use Rattle.model.specs.World.{World, held_at}
use Rattle.model.specs.Step.{routes_at, heard}
use Rattle.model.proofs.View.{view_record}
use Rattle.model_runs.specs.Trip.{Reads, as_segments}
use Rattle.model_runs.proofs.Trip.{trip_pdus}
use Rattle.model_refines.specs.Table.{table_of}
use Rattle.model_refines.specs.Whole.{whole_of}
use Rattle.model_refines.specs.Machine.{seen}
use Rattle.theorems.specs.Trip.{Reader}
use Rattle.theorem_witness.specs.Gauges.{gauges, gauges_up, pressure, rest_read, sent_pressure, zeroed_at}
use Rattle.theorem_witness.proofs.Gauges.{a_reader}

-- both connections online, nothing held, memory that is all zero: what the model sees of it
abbrev world : World
world = seen (zeroed_at gauges_up)

reader : Reader gauges (zeroed_at gauges_up) 1
reader = a_reader (replicate 23424 0) (replicate 23552 0)

record_seen : (held_at world 1).connection ≡ record_at gauges_up 1
record_seen = view_record gauges_up (replicate 23424 0) (replicate 23552 0) 1

-- CLOSED: connection 1 reads there
pub closed_reads : Reads (table_of gauges) world 1
closed_reads =
    record { there = lt-ltb _ _ reader.there; tcp = reader.tcp; receives = ap receiving record_seen ∙ reader.receives; at_header = reader.at_header }

-- its routes take the pressure on route 1
takes-pressure : lookup_of (body_of gauges Route) 1 (record_at gauges_up 1).switches 0x101 2 ≡ Accept 1
unfolding gauges be rows_of body_bytes start_of part_of body_of row_in connection_row route_row
    config_of fresh_state is_on rows_in counts row_for row_found row_decision lookup_of bad_from
takes-pressure = refl

routed : Routed (routes_at (table_of gauges) 1 (held_at world 1)) (sent_pressure ∷ []) (handed 1 pressure ∷ [])
routed =
    routed_one {s = sent_pressure} (record { id_fits = omega arith; length-fits = omega arith })
    (subst (λ (c : Connection). lookup_of (body_of gauges Route) 1 c.switches 0x101 2 ≡ Accept 1) (sym record_seen) takes-pressure) routed_none

-- the pressure's frame, cut after byte 3
abbrev cut : List (List ℕ)
cut = (0 ∷ 0 ∷ 1 ∷ []) ∷ rest_read ∷ []

cut-is : flatten cut ≡ frames (sent_pressure ∷ [])
unfolding flatten frames frame spell
cut-is = refl

-- THE MODEL'S ROUND TRIP'S CASE: these two segments hand out the one PDU
pub reads_case : heard (table_of gauges) (whole_of gauges) 1 world (as_segments 1 cut) ≡ pdu 1 pressure ∷ []
reads_case = trip_pdus (table_of gauges) (whole_of gauges) world 1 closed_reads cut routed cut-is
