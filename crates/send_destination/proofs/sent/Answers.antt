-- `send_destination::sent` meets its contract.
use Rattle.send_destination.proofs.sent.Goals as goal

pub returns : goal.returns
returns c = rw (c.with_send.ensures, c.timer_after-timer.ensures)
