-- `select::searched` meets its contract.
use Rattle.std.proofs.Common.{rules, refl}
use Rattle.wire.proofs.Place.{at_front}
use Rattle.select.proofs.searched.Goals as goal

pub body_laid-requires : goal.body_laid-requires
body_laid-requires c = c.requires (search rules)

pub returns-in-Ok : goal.returns-in-Ok
returns-in-Ok c = rw c.in-Ok.is record {
  bytes = refl;
  place = at_front c.args.image.ref_ptr;
}
