-- `table::body_numbered` meets its contract.
use mathlib.Core.Path.{refl}
use borrow.Author.Tests.{ne_eqb}
use Rattle.wire.proofs.Place.{at_front}
use Rattle.wire.proofs.Clauses.{bytes_place}
use Rattle.table.proofs.body_numbered.Goals as goal

pub returns-in-1 : goal.returns-in-1
returns-in-1 c = rw c.in-1.is record {
  bytes = c.body_of.ensures.bytes;
  place = c.body_of.ensures.place;
}

pub returns-in-2 : goal.returns-in-2
returns-in-2 c = rw c.in-2.is record {
  bytes = c.body_of-in-2.ensures.bytes;
  place = c.body_of-in-2.ensures.place;
}

pub returns-in-3 : goal.returns-in-3
returns-in-3 c = rw c.in-3.is record {
  bytes = c.body_of-in-3.ensures.bytes;
  place = c.body_of-in-3.ensures.place;
}

pub returns-in-4 : goal.returns-in-4
returns-in-4 c = rw c.in-4.is record {
  bytes = c.body_of-in-4.ensures.bytes;
  place = c.body_of-in-4.ensures.place;
}

pub returns-in_default : goal.returns-in_default
returns-in_default c = bytes_place (rw (
  ne_eqb _ 1 c.in_default.in_default-own.rest.0.0.0.1,
  ne_eqb _ 2 c.in_default.in_default-own.rest.0.0.1,
  ne_eqb _ 3 c.in_default.in_default-own.rest.0.1,
  ne_eqb _ 4 c.in_default.in_default-own.rest.1,
) (refl, at_front _))
