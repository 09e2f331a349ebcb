-- `send_waiting::waiting_of` meets its contract.
use Rattle.send_waiting.proofs.Taken.{wait_past, wait_short, wait_whole}
use native.Mathlib.Omega.{arith}
use Rattle.wire.proofs.Place.{from_there, from_past}
use Rattle.send_waiting.proofs.waiting_of.Goals as goal

pub returns-then-tx-at : goal.returns-then-tx-at
returns-then-tx-at c = record {
  bytes = wait_past _ _ _ c.if-tx-at.true;
  place = from_past _ _ _ c.if-tx-at.true;
}

pub returns-then-tx-at-2 : goal.returns-then-tx-at-2
returns-then-tx-at-2 c = record {
  bytes = wait_short _ _ _ c.if-tx-at-2.true;
  place = from_there _ _ _ (omega arith);
}

pub returns : goal.returns
returns c = record {
  bytes = wait_whole _ _ _;
  place = from_there _ _ _ (omega arith);
}
