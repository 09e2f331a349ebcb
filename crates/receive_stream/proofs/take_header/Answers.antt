-- `receive_stream::take_header` meets its contract.
use lib.ListN.{length-drop}
use mathlib.Core.Path.{refl, sym, ◌∙◌}
use Prim.Native.Nat.{◌-◌, ◌/◌}
use native.Mathlib.Omega.{arith}
use Rattle.receive_stream.proofs.Takes.{header-part, header-dropped, header-accepted, header_started, accepted-short, accepted-id}
use Rattle.wire.proofs.Part.{part_to_end}
use Rattle.receive_stream.specs.Stream.{id_of}
use Rattle.receive_route.specs.Route.{lookup_of}
use Rattle.receive_stream.proofs.take_header.Goals as goal

pub returns-then-here-need : goal.returns-then-here-need
returns-then-here-need c =
    let a = c.args in
    header-part (id_of a.routes.now) (lookup_of a.routes.now a.connection a.switches) a.value a.held
    a.total c.gather.result a.rx.now a.rest.now (omega arith) c.if-here-need.true c.gather.ensures.0

pub overflow_cast-size-in-Accept : goal.overflow_cast-size-in-Accept
overflow_cast-size-in-Accept c =
    omega (arith, accepted-short c.args.routes.now _ _ _ _ _ (sym c.lookup.ensures ∙ c.in-Accept.is) c.requires.0)

pub take_body-requires : goal.take_body-requires
take_body-requires c = (
  omega (arith, accepted-short c.args.routes.now _ _ _ _ _ (sym c.lookup.ensures ∙ c.in-Accept.is) c.requires.0, c.requires.1),
  rw part_to_end (omega (arith, length-drop (8 - c.args.held) c.args.rest.now)),
)

pub returns-in-Accept : goal.returns-in-Accept
returns-in-Accept c =
    let a = c.args in
    let is = sym c.lookup.ensures ∙ c.in-Accept.is in
    header-accepted (id_of a.routes.now) (lookup_of a.routes.now a.connection a.switches)
    a.value _ c.header_number-w.result _ _ _ a.total a.rx.now a.rest.now _ _
    (omega (arith, c.requires.2)) c.if-here-need.false c.header_number-w.ensures.0 refl refl is
    (c.take_body.ensures (lookup_of a.routes.now a.connection a.switches)
    (c.header_number-w.result / 4294967296) (id_of a.routes.now) (accepted-id a.routes.now _ _ _ _ _ is))

pub returns-in-Refuse : goal.returns-in-Refuse
returns-in-Refuse c =
    let a = c.args in
    header-dropped (id_of a.routes.now) (lookup_of a.routes.now a.connection a.switches)
    a.value _ c.header_number-w.result _ _ _ a.total a.rx.now a.rest.now _
    (omega arith) c.if-here-need.false c.header_number-w.ensures.0 refl refl (sym c.lookup.ensures ∙ c.in-Refuse.is) c.skipping.ensures

pub returns-in-Transfer : goal.returns-in-Transfer
returns-in-Transfer c =
    let a = c.args in
    header_started (id_of a.routes.now) (lookup_of a.routes.now a.connection a.switches)
    a.value _ c.header_number-w.result _ _ _ a.total a.rx.now a.rest.now _
    (omega arith) c.if-here-need.false c.header_number-w.ensures.0 refl refl (sym c.lookup.ensures ∙ c.in-Transfer.is) c.take_start.ensures
