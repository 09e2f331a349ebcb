-- WHAT SWITCHES COME TO (R18.3 to R18.5): a pair of words for each connection, the bits forced on and the bits forced off. Nothing here
-- speaks of how many bits a word has.
use Rattle.std.specs.Prelude.{ℕ, Bool, cond, eqb, get_or, set, replicate}
use Rattle.std.specs.Int.Bits.{bit_and, bit_or, bit_xor}
use Rattle.lists.specs.Each.{each, all_from}
use Rattle.connection.specs.Connection.{worth}
use Rattle.sheet.specs.declared.Pair.{Pair}
use Rattle.sheet.specs.declared.Words.{Words}

-- a word with the bits of another off: set, and then turned over
abbrev pub without : ℕ → ℕ → ℕ
without w off = bit_xor (bit_or w off) off

-- R18.3: the switches with the bits of `on` on and those of `off` off, every other as it was
unfoldable pub force_of : Pair → ℕ → ℕ
force_of p w = without (bit_or w p.on) p.off

-- R18.4, one pair and then another: a bit that the later one forces is as that forces it, every other as the earlier one has it
unfoldable pub force_then : Pair → Pair → Pair
force_then p q = record { on = force_of q p.on; off = bit_or (without p.off q.on) q.off }

-- R18.3: a pair that forces nothing, and one that forces switch n
abbrev pub force_none : Pair
force_none = record { on = 0; off = 0 }

unfoldable pub force_one : ℕ → Bool → Pair
force_one n on = cond on (record { on = worth n; off = 0 }) (record { on = 0; off = worth n })

-- R18.3: sixteen pairs, a connection's by its number
abbrev pub no_words : Words
no_words = record { pairs = replicate 16 force_none }

abbrev pub pair_at : Words → ℕ → Pair
pair_at ws i = get_or ws.pairs i force_none

abbrev pub with_pair : ℕ → Pair → Words → Words
with_pair i p ws = record { pairs = set ws.pairs i p }

-- R18.4: two sets of words joined, the later one's pair behind the earlier one's
abbrev pub join_at : Words → ℕ → Pair → Pair
join_at later i p = force_then p (pair_at later i)

unfoldable pub join_words : Words → Words → Words
join_words earlier later = record { pairs = each (join_at later) 0 earlier.pairs }

-- R18.5: no bit is forced on and off
abbrev pub never_twice : ℕ → Pair → Bool
never_twice i p = eqb (bit_and p.on p.off) 0

unfoldable pub agreeing : Words → Bool
agreeing ws = all_from never_twice 0 ws.pairs
