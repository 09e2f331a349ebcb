-- `receive_stream::take_payload` meets its contract.
use mathlib.Core.Path.{sym, ap}
use native.Mathlib.Omega.{arith}
use Rattle.receive_stream.proofs.Takes.{begun-here, resumed}
use Rattle.receive_stream.specs.Stream.{id_of}
use Rattle.table_rows.specs.declared.RouteRow.{RouteRow}
use Rattle.receive_stream.proofs.take_payload.Goals as goal

pub returns-then-held-eq0 : goal.returns-then-held-eq0
returns-then-held-eq0 c =
    let a = c.args in
    λ R. begun-here (id_of a.routes.now) R a.route a.size a.held _ a.rx.now a.segment.now _ _ c.if-held-eq0.true (omega arith)
    (c.take_body.ensures R 0 (id_of a.routes.now) (sym (ap (λ (r : RouteRow). r.id) c.row_at-row.ensures)))

pub returns : goal.returns
returns c =
    let a = c.args in
    λ R. resumed (id_of a.routes.now) R a.route a.size a.held _ a.rx.now a.segment.now _ _ c.if-held-eq0.false (omega arith)
    (c.take_rest.ensures R (id_of a.routes.now) (sym (ap (λ (r : RouteRow). r.id) c.row_at-row.ensures)))
