-- `receive_stream::take_piece` meets its contract.
use mathlib.Core.Path.{sym, ap}
use native.Mathlib.Omega.{arith}
use Rattle.table_rows.specs.declared.RouteRow.{RouteRow}
use Rattle.receive_stream.specs.Stream.{id_of}
use Rattle.receive_stream.proofs.Takes.{piece_none, piece-part, piece_last}
use Rattle.receive_stream.proofs.take_piece.Goals as goal

pub returns-then-here-eq0 : goal.returns-then-here-eq0
returns-then-here-eq0 c =
    let a = c.args in
    λ R rx. piece_none (id_of a.routes.now) R a.left a.route rx a.segment.now (omega (arith, c.requires, c.if-here-eq0.true))

pub returns-then-here-n : goal.returns-then-here-n
returns-then-here-n c =
    let a = c.args in
    λ R rx. piece-part (id_of a.routes.now) R a.left a.route _ rx a.segment.now _ (sym (ap (λ (r : RouteRow). r.id) c.row_at-row.ensures))
    (omega (arith, c.if-here-eq0.false)) c.if-here-n.true c.piece_before.ensures

pub returns : goal.returns
returns c =
    let a = c.args in
    λ R rx. piece_last (id_of a.routes.now) R a.left a.route _ rx a.segment.now _ (sym (ap (λ (r : RouteRow). r.id) c.row_at-row.ensures))
    c.requires c.if-here-n.false c.piece_before-2.ensures
