-- AN IMAGE IN THE RULES' WORDS (R1.2 to R1.10): what is good at each spot, the order in which the spots are looked at, and when each answer of the
-- table check is given.
use Rattle.std.specs.Prelude.{ℕ, ◌+◌, ◌<◌, ◌≤◌, ◌≡◌, true, List, length, Result, Ok, Err}
use Rattle.wire.specs.Be.{be}
use Rattle.table_layout.specs.Layout.{number, most_rows, entry_at, rows_of, start_of, end_of, row_of}
use Rattle.table_layout.specs.declared.Kind.{Kind}
use Rattle.table_layout.specs.declared.Kind.TheVariants.{Group, Connection, Route, Destination}
use Rattle.table_rows.specs.Rows.{
  group_zero,
  automatic_byte,
  transfer_byte,
  route_zero,
  trigger_byte,
  group_of,
  connection_of,
  route_of,
  destination_of,
}
use Rattle.table.specs.declared.BadTable.TheVariants.{At}
use Rattle.table_fault.specs.declared.Spot.{Spot}
use Rattle.table_fault.specs.declared.Spot.TheVariants.{Head, Entry, Total, Row}
use Rattle.table_fault.specs.Spots.{spot_place}
use Rattle.table_fault.specs.Good.{There}
use Rattle.table.specs.declared.BadTable.{BadTable}

-- R1.10, the order: the head, the contents entries, the total length, the rows of each kind, and of one kind by their number
abbrev pub stage_of : Spot → ℕ
stage_of Head = 0
stage_of (Entry k) = number k
stage_of Total = 5
stage_of (Row k i) = 5 + number k

abbrev pub within_stage : Spot → ℕ
within_stage Head = 0
within_stage (Entry k) = 0
within_stage Total = 0
within_stage (Row k i) = i

pub data Earlier (t u : Spot) : Type 0 where
  stage : stage_of t < stage_of u → Earlier t u
  row : stage_of t ≡ stage_of u → within_stage t < within_stage u → Earlier t u

module _ (s : List ℕ) where
  -- R1.2: 36 bytes at least, edition 1, 4 kinds
  pub record GoodHead : Type 0 where
    pub long : 36 ≤ length s
    pub edition : be 2 s 0 ≡ 1
    pub kinds : be 2 s 2 ≡ 4

  -- R1.3, R1.4: a contents entry has its kind, not too many rows, and the offset of its body
  pub record GoodEntry (k : Kind) : Type 0 where
    pub kind : be 2 s (entry_at k) ≡ number k
    pub most : rows_of s k ≤ most_rows k
    pub offset : be 4 s (entry_at k + 4) ≡ start_of s k

  -- R1.5, R1.6: a group has protocol 1 or 2 and a zero byte
  pub record GoodGroup (i : ℕ) : Type 0 where
    pub low : 1 ≤ (group_of s i).protocol
    pub high : (group_of s i).protocol ≤ 2
    pub zero : group_zero (row_of s Group i) ≡ 0

  -- R1.5, R1.7, R20.1: a connection has a group that is there, automatic 0 or 1, send size 8..1,472, and an alive limit only where its group is not TCP
  pub record GoodConnection (i : ℕ) : Type 0 where
    pub group : (connection_of s i).group < rows_of s Group
    pub automatic : automatic_byte (row_of s Connection i) ≤ 1
    pub low : 8 ≤ (connection_of s i).size
    pub high : (connection_of s i).size ≤ 1472
    pub unlimited : (group_of s (connection_of s i).group).protocol ≡ 2 → (connection_of s i).alive ≡ 0

  -- R1.5, R1.7 to R1.9, R19.1: a route has a connection that is there, transfer mark 0 or 1, and 1 only where its connection is TCP, longest
  -- payload 0..1,464, its zero bytes, and shares connection and id with no earlier one
  pub record GoodRoute (i : ℕ) : Type 0 where
    pub connection : (route_of s i).connection < rows_of s Connection
    pub transfer : transfer_byte (row_of s Route i) ≤ 1
    pub marked : (route_of s i).transfer ≡ true → (group_of s (connection_of s (route_of s i).connection).group).protocol ≡ 2
    pub longest : (route_of s i).longest ≤ 1464
    pub zeros : route_zero (row_of s Route i) ≡ 0
    pub apart : (j : ℕ) → j < i → (route_of s j).connection ≡ (route_of s i).connection → (route_of s j).id ≡ (route_of s i).id → ⊥

  -- R1.5, R1.7 to R1.9: a destination has a connection that is there, trigger 0 or 1, longest payload 0..1,464, which with 8 more fits the send size, and
  -- shares PDU and connection with no earlier one
  pub record GoodDestination (i : ℕ) : Type 0 where
    pub connection : (destination_of s i).connection < rows_of s Connection
    pub trigger : trigger_byte (row_of s Destination i) ≤ 1
    pub longest : (destination_of s i).longest ≤ 1464
    pub fits : (destination_of s i).longest + 8 ≤ (connection_of s (destination_of s i).connection).size
    pub apart : (j : ℕ) → j < i → (destination_of s j).pdu ≡ (destination_of s i).pdu → (destination_of s j).connection ≡ (destination_of s i).connection → ⊥

  abbrev pub GoodRow : Kind → ℕ → Type 0
  GoodRow Group i = GoodGroup i
  GoodRow Connection i = GoodConnection i
  GoodRow Route i = GoodRoute i
  GoodRow Destination i = GoodDestination i

  abbrev pub GoodSpot : Spot → Type 0
  GoodSpot Head = GoodHead
  GoodSpot (Entry k) = GoodEntry k
  GoodSpot Total = length s ≡ end_of s
  GoodSpot (Row k i) = GoodRow k i

  -- EVERY RULE IS MET
  abbrev pub MeetsAll : Type 0
  MeetsAll = (t : Spot) → There s t → GoodSpot t

  -- THE FIRST FAULT, at a place: a spot of the image that is not good, and every earlier one is
  pub record FirstFault (place : ℕ) : Type 0 where
    pub spot : Spot
    pub there : There s spot
    pub at : spot_place s spot ≡ place
    pub bad : GoodSpot spot → ⊥
    pub before : (t : Spot) → There s t → Earlier t spot → GoodSpot t

  -- R1.10: when each answer is given
  abbrev pub TableSays : Result Unit BadTable → Type 0
  TableSays (Ok tt) = MeetsAll
  TableSays (Err (At place)) = FirstFault place
