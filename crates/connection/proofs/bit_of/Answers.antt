-- `connection::bit_of` meets its contract.
use Rattle.connection.proofs.Bits.{worth-is, worth_none}
use Rattle.connection.proofs.bit_of.Goals as goal

pub returns-then-number-lt32 : goal.returns-then-number-lt32
returns-then-number-lt32 c = worth-is _ c.if-number-lt32.true

pub returns : goal.returns
returns c = worth_none _ c.if-number-lt32.false
