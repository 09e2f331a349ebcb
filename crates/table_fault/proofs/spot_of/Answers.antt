-- `table_fault::spot_of` meets its contract.
use Rattle.table_fault.specs.Spots.{spot_of}
use borrow.Author.Tests.{ne_eqb}
use Rattle.table_fault.proofs.spot_of.Goals as goal

pub returns-in-0 : goal.returns-in-0
unfolding spot_of
returns-in-0 c = rw c.in-0.is

pub returns-in-2 : goal.returns-in-2
unfolding spot_of
returns-in-2 c = rw c.in-2.is

pub returns-in-4 : goal.returns-in-4
unfolding spot_of
returns-in-4 c = rw c.in-4.is

pub returns-in-12 : goal.returns-in-12
unfolding spot_of
returns-in-12 c = rw c.in-12.is

pub returns-in-20 : goal.returns-in-20
unfolding spot_of
returns-in-20 c = rw c.in-20.is

pub returns-in-28 : goal.returns-in-28
unfolding spot_of
returns-in-28 c = rw c.in-28.is

pub returns-in_default : goal.returns-in_default
unfolding spot_of
returns-in_default c =
    let m = c.in_default.in_default-own.rest in
    rw (
      ne_eqb _ 0 m.0.0.0.0.0.1,
      ne_eqb _ 2 m.0.0.0.0.1,
      ne_eqb _ 4 m.0.0.0.1,
      ne_eqb _ 12 m.0.0.1,
      ne_eqb _ 20 m.0.1,
      ne_eqb _ 28 m.1,
    ) c.row_spot.ensures
