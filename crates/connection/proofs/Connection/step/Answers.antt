-- `Connection::step` meets its contract.
use Rattle.connection.specs.Event.{step_of}
use Rattle.connection.proofs.Connection.step.Goals as goal

pub returns-then-not-known : goal.returns-then-not-known
unfolding step_of
returns-then-not-known c = rw (← c.is_known-known.ensures, c.if-not-known.true-raw) c.refused.ensures

pub returns-then-not-allowed : goal.returns-then-not-allowed
unfolding step_of
returns-then-not-allowed c = rw (
  ← c.is_known-known.ensures,
  c.if-not-known.false-raw,
  ← c.allows-allowed.ensures,
  c.if-not-allowed.true-raw,
) c.refused-then-not-allowed.ensures

pub returns : goal.returns
unfolding step_of
returns c = rw (
  ← c.is_known-known.ensures,
  c.if-not-known.false-raw,
  ← c.allows-allowed.ensures,
  c.if-not-allowed.false-raw,
  c.after-next.ensures,
)
