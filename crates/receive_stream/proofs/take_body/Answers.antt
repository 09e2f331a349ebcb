-- `receive_stream::take_body` meets its contract.
use native.Mathlib.Omega.{arith}
use Rattle.receive_stream.proofs.Takes.{body-here, body-part}
use Rattle.receive_stream.proofs.take_body.Goals as goal

pub returns-then-n-here : goal.returns-then-n-here
returns-then-n-here c =
    let a = c.args in
    λ R i ids e. body-here ids R i a.route a.id a.size a.total a.rx.now a.rest.now e c.if-n-here.true (omega arith)

pub returns : goal.returns
returns c =
    let a = c.args in
    λ R i ids e. body-part ids R i a.route a.size a.total a.rx.now a.rest.now _ c.if-n-here.false c.copy_in.ensures
