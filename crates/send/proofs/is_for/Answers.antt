-- `send::is_for` meets its contract.
use borrow.Author.Rules.{rules}
use Rattle.send.proofs.Pdu.{for_row}
use Rattle.send.proofs.is_for.Goals as goal

pub returns : goal.returns
returns c = for_row _ _ _ _ _ (search rules) c.be8.ensures c.be8-2.ensures
