-- R19.7: what calls of `tick`, one after the other, say of transfers, joined.
use Rattle.std.specs.Prelude.{ℕ, zero, suc}
use Rattle.std.specs.Int.Bits.{bit_or}
use Rattle.gate.specs.Lent.{Lent, next}
use Rattle.entry_ticks.specs.Tick.{tick_event}

unfoldable pub failed_calls : ℕ → Lent → ℕ
failed_calls zero l = 0
failed_calls (suc n) l = bit_or (tick_event l).failed (failed_calls n (next l (tick_event l).state))
