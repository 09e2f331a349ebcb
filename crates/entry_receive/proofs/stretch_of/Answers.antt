-- `entry_receive::stretch_of` meets its contract.
use Prim.Native.Nat.{◌*◌}
use native.Mathlib.Omega.{arith}
use Rattle.wire.proofs.Place.{from_there, from_past}
use Rattle.entry_receive.proofs.Taking.{stretch_none, stretch-some, stretch-all}
use Rattle.entry_receive.proofs.stretch_of.Goals as goal

pub returns-then-rx-start : goal.returns-then-rx-start
returns-then-rx-start c = let a = c.args in
    record {
      bytes = stretch_none a.connection a.rx.now (omega arith);
      place = from_past a.rx.ref_ptr a.rx.now (a.connection * 1464) (omega arith);
    }

pub returns-then-rx-start-lt1464 : goal.returns-then-rx-start-lt1464
returns-then-rx-start-lt1464 c = let a = c.args in
    record {
      bytes = stretch-some a.connection a.rx.now (omega arith);
      place = from_there a.rx.ref_ptr a.rx.now (a.connection * 1464) (omega arith);
    }

pub returns : goal.returns
returns c = let a = c.args in
    record {
      bytes = stretch-all a.connection a.rx.now;
      place = from_there a.rx.ref_ptr a.rx.now (a.connection * 1464) (omega arith);
    }
