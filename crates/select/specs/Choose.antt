-- Which member of a group a source belongs to, and what becomes of it: R7.1 to R7.6 (requirement 00525 of the standard).
use Rattle.std.specs.Prelude.{ℕ, ◌+◌, ◌*◌, ◌%◌, Bool, true, false, cond, not, ◌&&◌, ◌||◌, List, [], eqb, leb, ltb, Option, Some, None, Result, Ok, Err}
use Rattle.table_layout.specs.Layout.{rows_of, body_of, body_at}
use Rattle.table_layout.specs.declared.Kind.TheVariants.{Group, Connection as KConnection}
use Rattle.table_rows.specs.Rows.{group_of, connection_row, connection_of}
use Rattle.connection.specs.declared.Connection.{Connection}
use Rattle.connection.specs.declared.Remote.{Remote}
use Rattle.connection.specs.declared.Fields.{Fields}
use Rattle.connection.specs.declared.Refusal.{Refusal}
use Rattle.connection.specs.declared.Refusal.TheVariants.{Missing, Denied}
use Rattle.connection.specs.Connection.{is_reconnect, is_online, equal_fields, wild_fields, wildcard, met_of}
use Rattle.connection.specs.Event.{refusal_number}
use Rattle.state.specs.declared.State.{State}
use Rattle.state.specs.State.{record_at, with_record}
use Rattle.state.specs.Fresh.{config_of}
use Rattle.select.specs.Best.{better, chosen_of}
use Rattle.select.specs.declared.Pick.{Pick}
use Rattle.select.specs.declared.NotMet.TheVariants.{Refused, Unmatched}
use Rattle.select.specs.declared.Arrived.{Arrived}
use Rattle.select.specs.declared.NotMet.{NotMet}

abbrev pub one_of : Bool → ℕ
one_of true = 1
one_of false = 0

-- R7.5: how a match ranks: both fields equal, then the address with any port, then any address with the port, then neither
unfoldable pub rank_of : Fields → ℕ
rank_of equal = 2 * one_of equal.address + one_of equal.port

-- R7.4: a field matches when it is equal, or 0 in the record
abbrev pub matches : Fields → Fields → Bool
matches equal wild = (equal.address || wild.address) && (equal.port || wild.port)

-- R7.3: members count in reconnect or online, for an accept only in reconnect, and never with close wanted
abbrev pub member_counts : Bool → Connection → Bool
member_counts accept c = (is_reconnect c.mode || (not accept && is_online c.mode)) && not c.close_wanted

-- a member's rank and 1 more; 0 for one that does not count or match, and for a record that is no member
unfoldable pub score_of : Bool → Remote → Bool → Connection → ℕ
score_of accept source member c =
    cond (member && member_counts accept c && matches (equal_fields c.remote source) (wild_fields c.remote))
    (1 + rank_of (equal_fields c.remote source))
    0

module _ (image : List ℕ) (s : State) (accept : Bool) (group : ℕ) (source : Remote) where
  -- row i is there and names the group
  abbrev pub member : ℕ → Bool
  member i = ltb i (rows_of image KConnection) && eqb (connection_of image i).group group

  unfoldable pub score_at : ℕ → ℕ
  score_at i = score_of accept source (member i) (record_at s i)

  -- of the sixteen records
  unfoldable pub chosen_in : Option ℕ
  chosen_in = chosen_of score_at 16

-- one record more, with its row: it is a member where the row names the group
abbrev pub better_of : Bool → ℕ → Remote → Pick → List ℕ → ℕ → Connection → Pick
better_of accept group source b row i c = better (λ (k : ℕ). score_of accept source (eqb (connection_row row).group group) c) b i

-- R7.6, R20.3: it becomes online with the source as remote, and the answer names it
abbrev pub meet : List ℕ → State → Remote → Option ℕ → Arrived
meet image s source None = record { answer = Err Unmatched; state = s }
meet image s source (Some k) =
    record { answer = Ok k; state = with_record k (met_of (config_of image k) source (record_at s k)) s }

abbrev pub arrival_refused : State → Refusal → Arrived
arrival_refused s r = record { answer = Err (Refused r); state = s }

-- a datagram names a UDP group, an accept a TCP group
abbrev pub protocol_of : Bool → ℕ
protocol_of accept = cond accept 2 1

-- R7.1, R7.2: 3 for a group of the other protocol, and for a source with address 0 or port 0
unfoldable pub denied_of : List ℕ → Bool → ℕ → Remote → Bool
denied_of image accept group source = not (eqb (group_of image group).protocol (protocol_of accept)) || wildcard source

-- a datagram (accept false) or an accept (accept true): 2, 3, then 10 or the chosen connection
unfoldable pub arrive_of : List ℕ → State → Bool → ℕ → Remote → Arrived
arrive_of image s accept group source =
    cond (leb (rows_of image Group) group) (arrival_refused s Missing)
    (cond (denied_of image accept group source) (arrival_refused s Denied)
    (meet image s source (chosen_in image s accept group source)))

-- the same in the order of the code: what is answered before the rows are looked through, ..
unfoldable pub answer_before : List ℕ → Bool → ℕ → Remote → Result ℕ NotMet
answer_before image accept group source =
    cond (leb (rows_of image Group) group) (Err (Refused Missing)) (cond (denied_of image accept group source) (Err (Refused Denied)) (Err Unmatched))

-- .. the rows that are looked through, and where in the image they stand, ..
abbrev pub searched_of : Result ℕ NotMet → List ℕ → List ℕ
searched_of (Ok k) image = []
searched_of (Err (Refused r)) image = []
searched_of (Err Unmatched) image = body_of image KConnection

abbrev pub searched_at : Result ℕ NotMet → List ℕ → ℕ
searched_at (Ok k) image = 0
searched_at (Err (Refused r)) image = 0
searched_at (Err Unmatched) image = body_at image KConnection

-- .. and what is answered after it
abbrev pub answer_after : Result ℕ NotMet → Pick → Result ℕ NotMet
answer_after before best = cond (eqb best.score 0) before (Ok best.at)

abbrev pub is_met : Result ℕ NotMet → Bool
is_met (Ok k) = true
is_met (Err (Refused r)) = false
is_met (Err Unmatched) = false

-- the same, by the answer: which record is put back, that of the connection that the answer names, or record 0 as it was
abbrev pub met_place : Result ℕ NotMet → ℕ
met_place (Ok k) = k % 16
met_place (Err (Refused r)) = 0
met_place (Err Unmatched) = 0

abbrev pub met_next : List ℕ → Remote → Result ℕ NotMet → Connection → Connection
met_next image source (Ok k) c = met_of (config_of image k) source c
met_next image source (Err (Refused r)) c = c
met_next image source (Err Unmatched) c = c

-- R4.1: the number of an answer
abbrev pub arrival_number : Result ℕ NotMet → ℕ
arrival_number (Ok k) = 0
arrival_number (Err (Refused r)) = refusal_number r
arrival_number (Err Unmatched) = 10
