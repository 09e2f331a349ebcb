-- ROUTING SWITCHES: whether a route or a destination is on (R5.3).
use Rattle.std.specs.Prelude.{ℕ, ◌≡◌, Bool, not, ◌||◌, eqb}
use Rattle.std.specs.Int.Bits.{bit_and}
use Rattle.wire.specs.Bits.{bit_at}

-- R5.3: on when its groups are 0 or share a set bit with the connection's switches
unfoldable pub is_on : ℕ → ℕ → Bool
is_on groups switches = eqb groups 0 || not (eqb (bit_and groups switches) 0)

-- a shared set bit, bit by bit
pub record Shared (groups switches : ℕ) : Type 0 where
  pub bit : ℕ
  pub grouped : bit_at bit groups ≡ 1
  pub switched : bit_at bit switches ≡ 1
