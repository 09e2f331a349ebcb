-- `receive_stream::take_rest` meets its contract.
use native.Mathlib.Omega.{arith}
use Rattle.receive_stream.proofs.Takes.{rest-here, rest_part}
use Rattle.receive_stream.proofs.take_rest.Goals as goal

pub returns-then-n-here : goal.returns-then-n-here
returns-then-n-here c =
    let a = c.args in
    λ R ids e. rest-here ids R a.route a.id a.size a.held a.rx.now a.segment.now _ e
    (omega arith) (omega arith) c.if-n-here.true c.copy_in.ensures

pub returns : goal.returns
returns c =
    let a = c.args in
    λ R ids e. rest_part ids R a.route a.size a.held a.rx.now a.segment.now _
    (omega arith) (omega arith) c.if-n-here.false c.copy_in-2.ensures
