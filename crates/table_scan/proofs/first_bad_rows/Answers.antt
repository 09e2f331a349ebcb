-- `table_scan::first_bad_rows` meets its contract.
use Rattle.table_scan.proofs.Sizes.{none_bad_sized}
use mathlib.Core.Path.{refl}
use native.Mathlib.Omega.{arith}
use Rattle.table_scan.proofs.first_bad_rows.Goals as goal

pub bad_rows-requires : goal.bad_rows-requires
bad_rows-requires c =
    record {
      wide = (omega arith, refl);
      sized = none_bad_sized c.args.groups.now _ c.requires;
    }

pub bad_rows-requires-2 : goal.bad_rows-requires-2
bad_rows-requires-2 c =
    record {
      wide = (omega arith, refl);
      sized = none_bad_sized c.args.groups.now _ c.requires;
    }
