-- WHAT A RECORDER WRITES (R17.1), entry by entry, and what a reader gets out of the bytes of a recording.
use Rattle.std.specs.Prelude.{ℕ, zero, suc, ◌+◌, ◌≤◌, ◌<◌, ◌≡◌, true, List, [], ◌∷◌, ◌++◌, length, take, drop}
use Rattle.wire.specs.Lay.{spell}
use Rattle.reading_lengths.specs.Listed.{Bytes}
use Rattle.event_decode.specs.Calls.{call_of}
use Rattle.recording.specs.Recording.{entries_in, contents_to, entry_row, stamp_in, number_in, body_long, distance_in, stamps, most_entries, longest_entry}
use Rattle.recording.specs.Entry.{is_recorded, arguments_in, answer_in, is_spelt}

-- AN ENTRY: the tick stamp, the event's number and arguments, and the answer that was given
pub record Noted : Type 0 where
  pub stamp : ℕ
  pub number : ℕ
  pub arguments : List ℕ
  pub answer : List ℕ

-- "the event's arguments and bytes, then the answer the truck gave"
abbrev pub note_body : Noted → List ℕ
note_body e = e.arguments ++ e.answer

-- "tick stamp 4, event number 2, zero 2, body length 4"
abbrev pub note_row : Noted → List ℕ
note_row e = spell 4 e.stamp ++ spell 2 e.number ++ spell 2 0 ++ spell 4 (length (note_body e))

unfoldable pub rows_for : List Noted → List ℕ
rows_for [] = []
rows_for (e ∷ es) = note_row e ++ rows_for es

-- "The bodies follow in the same order without gaps"
unfoldable pub bodies_for : List Noted → List ℕ
bodies_for [] = []
bodies_for (e ∷ es) = note_body e ++ bodies_for es

-- "edition 1 (2 bytes) and the number of entries (2), then a contents row .. for each entry", then the bodies
abbrev pub front_for : List Noted → List ℕ
front_for es = spell 2 1 ++ spell 2 (length es)

-- THE RECORDING
abbrev pub recording_of : List Noted → List ℕ
recording_of es = front_for es ++ rows_for es ++ bodies_for es

-- WHAT CAN BE RECORDED: an event 1 to 16 with arguments that spell it, at a stamp of four bytes, with a body of 4,096 bytes at most
pub record Notable (e : Noted) : Type 0 where
  pub event : is_recorded e.number ≡ true
  pub spells : is_spelt (call_of e.number e.arguments) ≡ true
  pub bytes : Bytes e.arguments
  pub in_width : e.stamp < stamps
  pub short : length (note_body e) ≤ longest_entry

abbrev pub AllNotable : List Noted → Type 0
AllNotable [] = Unit {0}
AllNotable (e ∷ es) = Notable e × AllNotable es

-- stamps whose distances, from the one before on, are at most 65,535
abbrev pub Near : ℕ → List Noted → Type 0
Near before [] = Unit {0}
Near before (e ∷ es) = (distance_in stamps before e.stamp ≤ 65535) × Near e.stamp es

-- "the first stamp counts as distance 0": whatever it is
abbrev pub NearEnough : List Noted → Type 0
NearEnough [] = Unit {0}
NearEnough (e ∷ es) = Near e.stamp es

abbrev pub first_stamp : List Noted → ℕ
first_stamp [] = 0
first_stamp (e ∷ es) = e.stamp

pub record Recordable (es : List Noted) : Type 0 where
  pub entries : length es ≤ most_entries
  pub each : AllNotable es
  pub near : NearEnough es

-- WHAT A READER GETS: entry i, whose body begins at the byte `at`, and those behind it
module _ (r : List ℕ) where
  abbrev pub body_read : ℕ → ℕ → List ℕ
  body_read i at = take (body_long (entry_row r i)) (drop at r)

  abbrev pub note_at : ℕ → ℕ → Noted
  note_at i at =
      record {
        stamp = stamp_in (entry_row r i);
        number = number_in (entry_row r i);
        arguments = arguments_in (number_in (entry_row r i)) (body_read i at);
        answer = answer_in (number_in (entry_row r i)) (body_read i at);
      }

  unfoldable pub notes_from : ℕ → ℕ → ℕ → List Noted
  notes_from zero i at = []
  notes_from (suc n) i at = note_at i at ∷ notes_from n (suc i) (at + body_long (entry_row r i))

  abbrev pub notes_in : List Noted
  notes_in = notes_from (entries_in r) 0 (contents_to (entries_in r))
