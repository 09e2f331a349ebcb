-- WHAT GROUP AND MODULE EVENTS MAKE OF THE WORLD, by the definitions of their entry points. All but a transmit write no lent memory:
-- they leave a state, and of the held bytes those that it still holds.
use Rattle.std.specs.Prelude.{ℕ, true, false, cond, List, ltb}
use Rattle.table_layout.specs.Layout.{rows_of}
use Rattle.table_layout.specs.declared.Kind.TheVariants.{Connection as Connections}
use Rattle.select.specs.Choose.{arrive_of}
use Rattle.entry_ticks.specs.Tick.{ticked_to}
use Rattle.entry_events.specs.Module.{switched_all}
use Rattle.entry_events.specs.Count.{clear_past}
use Rattle.model.specs.World.{World, state_of, leaves}
use Rattle.model.specs.Events.{Whole, datagram, accept, tick, transmit, switch_all, read_count, clear_count}
use Rattle.model_refines.specs.Send.{transmit_in}

abbrev pub whole_of : List ℕ → Whole → World → World
whole_of image (datagram group source) w = leaves (arrive_of image (state_of w) false group source).state w
whole_of image (accept group source) w = leaves (arrive_of image (state_of w) true group source).state w
whole_of image tick w = leaves (ticked_to image (rows_of image Connections) (state_of w)) w
whole_of image (transmit pdu payload) w = transmit_in image pdu payload w
whole_of image (switch_all number on) w = cond (ltb number 32) (leaves (switched_all (rows_of image Connections) number on (state_of w)) w) w
whole_of image (read_count protocol) w = w
whole_of image (clear_count protocol) w = leaves (clear_past (state_of w) protocol).state w
