-- What the search is told of every answer: how long it is, and that one which does not fit is not written.
use Rattle.std.proofs.Common.{length-append}
use Rattle.wire.proofs.Lay.{lay-out}
use Rattle.wire.proofs.Spell.{length-spell}

pub ruleset laid = (length-append, length-spell, lay-out)
