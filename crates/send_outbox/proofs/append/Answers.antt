-- `send_outbox::append` meets its contract.
use Rattle.send_outbox.proofs.Laid.{part-framed, past_end}
use Rattle.send_outbox.proofs.append.Goals as goal

pub returns-then-tx-at : goal.returns-then-tx-at
returns-then-tx-at c = past_end _ _ _ _ c.if-tx-at.true

pub returns : goal.returns
returns c = part-framed _ _ c.if-tx-at.false _ _ _ c.framing-answer.ensures.memory
