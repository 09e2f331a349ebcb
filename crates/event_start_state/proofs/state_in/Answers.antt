-- `event_start_state::state_in` meets its contract.
use Rattle.std.proofs.Common.{◌<◌, ◌≡◌, ap, ◌∙◌, arith}
use Rattle.wire.specs.Be.{be}
use Rattle.state.specs.declared.State.{State}
use Rattle.state.specs.Fresh.{empty_state}
use Rattle.state.proofs.Upto.{turn, upto_whole}
use Rattle.event_start_state.specs.Given.{given_at, record_in, state_in}
use Rattle.event_start_state.proofs.state_in.Goals as goal

pub loop-i-preserved : goal.loop-i-preserved
loop-i-preserved c =
    let h : c.loop-i.i < 16 = omega arith in
    turn (given_at _) empty_state _ _ _ h c.loop-i.invariant (c.record_in.ensures ∙ ap record_in c.bytes_from.ensures.bytes)

pub returns : goal.returns
unfolding state_in
returns c =
    let b = c.args.bytes.now in
    let e : 16 ≡ c.loop-i.i = omega arith in
    let counted : State → State = λ s. record { connections = s.connections; udp_drops = be 4 b 736; tcp_drops = be 4 b 740 } in
    rw (c.u32_at.ensures, c.u32_at-2.ensures) (ap counted (upto_whole (given_at _) empty_state _ _ e c.loop-i.invariant))
