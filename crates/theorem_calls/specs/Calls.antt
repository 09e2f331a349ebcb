-- WHEN EACH ANSWER IS GIVEN, of framing (R6.2), of the C walk (R11.3) and of making the fresh state (R2.13), in the rules' words.
use Rattle.std.specs.Prelude.{ℕ, ◌+◌, ◌<◌, ◌≤◌, ◌≡◌, List, length, Result, Ok, Err}
use Rattle.table_layout.specs.Layout.{rows_of, body_of}
use Rattle.table_layout.specs.declared.Kind.TheVariants.{Connection, Route}
use Rattle.table_rows.specs.Rows.{group_of, connection_of}
use Rattle.table.specs.declared.BadTable.TheVariants.{At}
use Rattle.state.specs.Fresh.{fresh_state, empty_state}
use Rattle.entry_fresh.specs.declared.Made.{Made}
use Rattle.frame.specs.declared.FrameError.TheVariants.{TooLong, NoRoom}
use Rattle.receive_datagram.specs.Datagram.{walked_of}
use Rattle.receive_datagram.specs.declared.Walked.{Walked}
use Rattle.soad_walk.specs.declared.WalkRefusal.{WalkRefusal}
use Rattle.soad_walk.specs.declared.WalkRefusal.TheVariants.{BadImage, Missing, Denied}
use Rattle.theorem_calls.specs.Image.{MeetsAll, FirstFault}
use Rattle.frame.specs.declared.FrameError.{FrameError}

-- R6.2, a payload of n bytes into an out buffer of so many: 7 longer than 1,464; then 9 shorter than 8 + length; else done
pub data FramingSays (n room : ℕ) : Result Unit FrameError → Type 0 where
  too_long : 1464 < n → FramingSays n room (Err TooLong)
  no_room : n ≤ 1464 → room < 8 + n → FramingSays n room (Err NoRoom)
  frames_it : n ≤ 1464 → 8 + n ≤ room → FramingSays n room (Ok tt)

-- R2.13: the fresh state of an image that meets every rule; of any other its first fault's place, and the state of the empty table
pub data MakeSays (image : List ℕ) : Made → Type 0 where
  made_fresh : MeetsAll image → MakeSays image (record { answer = Ok tt; state = fresh_state image })
  made_empty : (place : ℕ) → FirstFault image place → MakeSays image (record { answer = Err (At place); state = empty_state })

-- R11.3: 1 an image that does not meet every rule; then 2 a connection that is not there; then 3 a TCP connection, or a place beyond the end; else 0,
-- a step of the walk
module _ (image : List ℕ) (connection switches : ℕ) (datagram : List ℕ) (place : ℕ) where
  abbrev pub protocol_number : ℕ
  protocol_number = (group_of image (connection_of image connection).group).protocol

  pub data WalkSays : Result Walked WalkRefusal → Type 0 where
    bad_image : (MeetsAll image → ⊥) → WalkSays (Err BadImage)
    not_there : MeetsAll image → rows_of image Connection ≤ connection → WalkSays (Err Missing)
    tcp : MeetsAll image → connection < rows_of image Connection → protocol_number ≡ 2 → WalkSays (Err Denied)
    beyond : MeetsAll image → connection < rows_of image Connection → length datagram < place → WalkSays (Err Denied)
    walks_on : MeetsAll image → connection < rows_of image Connection → (protocol_number ≡ 2 → ⊥) → place ≤ length datagram
        → WalkSays (Ok (walked_of datagram place (body_of image Route) connection switches))

  -- .. by the answer's number, as a C program gets it
  pub data WalkNumber : ℕ → Type 0 where
    image_gives_1 : (MeetsAll image → ⊥) → WalkNumber 1
    connection_gives_2 : MeetsAll image → rows_of image Connection ≤ connection → WalkNumber 2
    tcp_gives_3 : MeetsAll image → connection < rows_of image Connection → protocol_number ≡ 2 → WalkNumber 3
    place_gives_3 : MeetsAll image → connection < rows_of image Connection → length datagram < place → WalkNumber 3
    step_gives_0 : MeetsAll image → connection < rows_of image Connection → (protocol_number ≡ 2 → ⊥) → place ≤ length datagram → WalkNumber 0
