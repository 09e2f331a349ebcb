-- THE FIGURES of one route and of one connection (R21.1 to R21.3): of none, of one, and added up.
use Rattle.std.specs.Prelude.{ℕ, ◌+◌, ◌*◌, ◌≤◌, min, max, ◌≡◌, Bool, true, false, cond, ◌&&◌, eqb, ltb}
use Rattle.report.specs.declared.RouteFigures.{RouteFigures}
use Rattle.report.specs.declared.Drops.{Drops}

-- R21.4, sums have 64 bits: whether the sum of two is one
abbrev pub sum_fits : ℕ → ℕ → Bool
sum_fits a b = ltb (a + b) 18446744073709551616

-- R21.1: "With no PDU the smallest and largest are 0"
abbrev pub no_pdus : RouteFigures
no_pdus = record { pdus = 0; bytes = 0; smallest = 0; largest = 0 }

-- R21.2: one PDU of so many bytes, 0 too
abbrev pub one_pdu : ℕ → RouteFigures
one_pdu n = record { pdus = 1; bytes = n; smallest = n; largest = n }

-- R21.3, the smaller of both: where one side has no PDU, the other's; where neither has, both are 0 in every report that was counted, and
-- else the larger
unfoldable pub smallest_by : Bool → Bool → ℕ → ℕ → ℕ
smallest_by true true a b = max a b
smallest_by true false a b = b
smallest_by false true a b = a
smallest_by false false a b = min a b

-- R21.3: the figures of a route and more of them
unfoldable pub add_figures : RouteFigures → RouteFigures → RouteFigures
add_figures f g =
    record {
      pdus = f.pdus + g.pdus;
      bytes = f.bytes + g.bytes;
      smallest = smallest_by (eqb f.pdus 0) (eqb g.pdus 0) f.smallest g.smallest;
      largest = max f.largest g.largest;
    }

-- R21.4: no sum passes 64 bits
unfoldable pub figures_fit : RouteFigures → RouteFigures → Bool
figures_fit f g = sum_fits f.pdus g.pdus && sum_fits f.bytes g.bytes

-- .. and where one would, nothing is added
unfoldable pub plus_figures : RouteFigures → RouteFigures → RouteFigures
plus_figures f g = cond (figures_fit f g) (add_figures f g) f

-- the drops of a connection, by reason: 20 no route, 21 switched off, 22 too long, 23 cut off, and 24
abbrev pub drops_by : ℕ → ℕ → ℕ → ℕ → ℕ → Drops
drops_by unrouted off long cut short = record { unrouted = unrouted; off = off; long = long; cut = cut; short = short }

abbrev pub no_drops : Drops
no_drops = drops_by 0 0 0 0 0

-- R21.2: one drop of a reason; another number is none
unfoldable pub one_drop : ℕ → Drops
one_drop reason =
    cond (eqb reason 20) (drops_by 1 0 0 0 0)
    (cond (eqb reason 21) (drops_by 0 1 0 0 0)
    (cond (eqb reason 22) (drops_by 0 0 1 0 0)
    (cond (eqb reason 23) (drops_by 0 0 0 1 0)
    (cond (eqb reason 24) (drops_by 0 0 0 0 1)
    no_drops))))

unfoldable pub add_drops : Drops → Drops → Drops
add_drops d e = drops_by (d.unrouted + e.unrouted) (d.off + e.off) (d.long + e.long) (d.cut + e.cut) (d.short + e.short)

unfoldable pub drops_fit : Drops → Drops → Bool
drops_fit d e =
    sum_fits d.unrouted e.unrouted && sum_fits d.off e.off && sum_fits d.long e.long && sum_fits d.cut e.cut
    && sum_fits d.short e.short

unfoldable pub plus_drops : Drops → Drops → Drops
plus_drops d e = cond (drops_fit d e) (add_drops d e) d

-- R21.7: "PDUs x smallest <= bytes <= PDUs x largest"
pub record Between (f : RouteFigures) : Type 0 where
  pub low : f.pdus * f.smallest ≤ f.bytes
  pub high : f.bytes ≤ f.pdus * f.largest

-- R21.8: with no PDU smallest and largest are 0
pub record Bare (f : RouteFigures) : Type 0 where
  pub smallest : f.pdus ≡ 0 → f.smallest ≡ 0
  pub largest : f.pdus ≡ 0 → f.largest ≡ 0
