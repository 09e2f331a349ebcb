-- `receive_stream::gather` meets its contract: w stands for the bytes so far.
use lib.ListN.{take}
use mathlib.Core.Path.{◌≡◌}
use Prim.Native.Nat.{◌+◌, ◌^◌, ◌<◌}
use Rattle.reading.specs.Feed.{spelt}
use Rattle.receive_stream.proofs.gather.Given as goal

abbrev pub invariant-loop-byte : goal.invariant-loop-byte
invariant-loop-byte l = (l.w ≡ spelt l.value (take l.byte-index l.bytes)) × (l.w < 256 ^ (l.held + l.byte-index))
