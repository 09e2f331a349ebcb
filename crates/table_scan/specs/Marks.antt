-- A small number of what two rows may not share: rows with different numbers do not share it. It makes the search quick,
-- and says nothing of its answer. It is a multiplicative hash of the key (2^32 less the factor is 2^32 over the golden ratio), with seven
-- times the connection added at its top: rising and stepped keys spread well.
use Rattle.std.specs.Prelude.{ℕ, ◌+◌, ◌-◌, ◌*◌, ◌/◌, ◌%◌, ◌^◌, ◌<◌, ◌≤◌, ◌≡◌, Bool, true, List, length, get_or}
use Rattle.wire.specs.Be.{turn}
use Rattle.lists.specs.Search.{bad_from}
use Rattle.table_layout.specs.Layout.{row_width, row_in}
use Rattle.table_layout.specs.declared.Kind.TheVariants.{Route}
use Rattle.table_rows.specs.Rows.{route_row, destination_row}
use Rattle.table_scan.specs.Scan.{good_in, bad_of}

-- of a connection and the key beside it: 32 bits without the lowest `shift`
unfoldable pub mark_of : ℕ → ℕ → ℕ → ℕ
mark_of shift connection key = (key * 906386977 + connection * 1426063360) % 4294967296 / 2 ^ shift

-- the id is read with its bytes in the other order: so one load reads it
unfoldable pub route_mark : ℕ → List ℕ → ℕ
route_mark shift row = mark_of shift (route_row row).connection (turn (route_row row).id)

-- a number of two bytes with its bytes in the other order: a PDU is read so
abbrev pub turned_pair : ℕ → ℕ
turned_pair x = x % 256 * 256 + x / 256

unfoldable pub destination_mark : ℕ → List ℕ → ℕ
destination_mark shift row = mark_of shift (destination_row row).connection (turned_pair (destination_row row).pdu)

-- so many marks there are: 32 bits without the lowest `shift` have n values
abbrev pub Wide : ℕ → ℕ → Type 0
Wide shift n = (shift < 64) × (n * 2 ^ shift ≡ 4294967296)

-- rows that share what they may not have one mark
abbrev pub Agree : (List ℕ → List ℕ → Bool) → (List ℕ → ℕ) → Type 0
Agree shares mark = (a b : List ℕ) → shares a b ≡ true → mark a ≡ mark b

-- of rows of 16 bytes, as routes and destinations have them
module _ (good : List ℕ → Bool) (shares : List ℕ → List ℕ → Bool) (mark : List ℕ → ℕ) (tag : ℕ) (body seen : List ℕ) (i : ℕ) where
  -- a search that has come to row i: what is left of it has the whole one's answer, and the rows before i have left the tag at their marks
  pub record Come : Type 0 where
    pub low : i ≤ length body / row_width Route
    pub rest : bad_from (good_in good shares (row_width Route) body) (length body / row_width Route - i) i ≡ bad_of good shares body
    pub room : (row : List ℕ) → mark row < length seen
    pub noted : (j : ℕ) → j < i → get_or seen (mark (row_in (row_width Route) body j)) 0 ≡ tag

  -- the same, stopped at row i: if that row is good by itself, its mark is noted
  pub record Struck : Type 0 where
    pub come : Come
    pub met : i < length body / row_width Route → good (row_in (row_width Route) body i) ≡ true → get_or seen (mark (row_in (row_width Route) body i)) 0 ≡ tag
