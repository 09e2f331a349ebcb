-- THE REPLAY OF A WHOLE RECORDING (R17.4): a fresh state under the table, then a fold of one step over the entries.
use Rattle.std.specs.Prelude.{ℕ, zero, suc, ◌+◌, Bool, true, false, cond, List, eqb, drop, Result, Ok, Err}
use Rattle.table.specs.declared.BadTable.TheVariants as Answered
use Rattle.table.specs.Table.{check_table}
use Rattle.state.specs.declared.State.{State}
use Rattle.state.specs.Fresh.{fresh_state, empty_state}
use Rattle.gate.specs.Lent.{loan}
use Rattle.recording.specs.declared.Unreadable.{Unreadable}
use Rattle.recording.specs.Recording.{entries_in, contents_to, entry_row, stamp_in, body_long, distance_in, stamps, shown_by}
use Rattle.replay_step.specs.declared.Unplayed.{Unplayed}
use Rattle.replay_step.specs.declared.Unplayed.TheVariants as Entry
use Rattle.replay_step.specs.declared.Compared.{Compared}
use Rattle.replay_step.specs.declared.Compared.TheVariants.{Same, Differs}
use Rattle.replay_step.specs.Step.{Stepped, entry_step}
use Rattle.replay_whole.specs.declared.End.{End}
use Rattle.replay_whole.specs.declared.End.TheVariants.{Table, Unread, Small, Cut, Refused}
use Rattle.replay_whole.specs.declared.Replayed.{Replayed}
use Rattle.table.specs.declared.BadTable.{BadTable}

-- HOW FAR A REPLAY IS: the state, both memories and the out buffer, where the next body begins, the stamp before, the ticks run so far, and
-- the number of the first entry whose answer differs, from 1, 0 while there is none
pub record Going : Type 0 where
  pub state : State
  pub rx : List ℕ
  pub tx : List ℕ
  pub out : List ℕ
  pub at : ℕ
  pub before : ℕ
  pub ticks : ℕ
  pub differs : ℕ

-- WHAT A REPLAY LEAVES
pub record Left : Type 0 where
  pub replayed : Replayed
  pub rx : List ℕ
  pub tx : List ℕ
  pub out : List ℕ

-- an entry that was run
unfoldable pub is_run : Result Compared Unplayed → Bool
is_run (Ok c) = true
is_run (Err why) = false

unfoldable pub is_other : Result Compared Unplayed → Bool
is_other (Ok (Same n)) = false
is_other (Ok (Differs n)) = true
is_other (Err why) = false

-- "reports the first whose recorded answer differs", "by entry number from 1"
unfoldable pub first_other : ℕ → ℕ → Bool → ℕ
first_other differs i other = cond (eqb differs 0) (cond other (i + 1) 0) differs

-- how the entry i ends the replay
unfoldable pub end_at : ℕ → Result Compared Unplayed → Result Unit End
end_at i (Ok c) = Ok tt
end_at i (Err Entry.Small) = Err Small
end_at i (Err Entry.Cut) = Err (Cut (i + 1))
end_at i (Err (Entry.Refused f)) = Err (Refused (i + 1) f)

module _ (image recording : List ℕ) where
  -- the step of entry i, from 0
  abbrev pub step_at : ℕ → Going → Stepped
  step_at i g = entry_step (loan image g.state g.rx g.tx) g.out g.before (entry_row recording i) (drop g.at recording)

  -- .. which was run
  abbrev pub ongoing : ℕ → Going → Stepped → Going
  ongoing i g s =
      record {
        state = s.state;
        rx = s.rx;
        tx = s.tx;
        out = s.out;
        at = g.at + body_long (entry_row recording i);
        before = stamp_in (entry_row recording i);
        ticks = g.ticks + distance_in stamps g.before (stamp_in (entry_row recording i));
        differs = first_other g.differs i (is_other s.played);
      }

  -- .. which was not: the replay ends before it
  abbrev pub stopped : ℕ → Going → Stepped → Left
  stopped i g s =
      record {
        replayed = record { end = end_at i s.played; run = i; ticks = g.ticks; differs = g.differs; state = s.state };
        rx = s.rx;
        tx = s.tx;
        out = s.out;
      }

  -- all entries have been run
  abbrev pub finished : ℕ → Going → Left
  finished i g =
      record {
        replayed = record { end = Ok tt; run = i; ticks = g.ticks; differs = g.differs; state = g.state };
        rx = g.rx;
        tx = g.tx;
        out = g.out;
      }

  -- the entries from i on, so many
  unfoldable pub replay_from : ℕ → ℕ → Going → Left
  replay_from zero i g = finished i g
  replay_from (suc n) i g =
      cond (is_run (step_at i g).played) (replay_from n (suc i) (ongoing i g (step_at i g))) (stopped i g (step_at i g))

  module _ (rx tx out : List ℕ) where
    -- before the first entry, whose stamp "counts as distance 0"
    abbrev pub before_first : State → Going
    before_first s =
        record {
          state = s;
          rx = rx;
          tx = tx;
          out = out;
          at = contents_to (entries_in recording);
          before = stamp_in (entry_row recording 0);
          ticks = 0;
          differs = 0;
        }

    -- all entries, from a state on
    abbrev pub played_all : State → Left
    played_all s = replay_from (entries_in recording) 0 (before_first s)

    -- nothing is run
    abbrev pub unrun : End → State → Left
    unrun e s = record { replayed = record { end = Err e; run = 0; ticks = 0; differs = 0; state = s }; rx = rx; tx = tx; out = out }

    unfoldable pub under_front : Result Unit Unreadable → Left
    under_front (Ok tt) = played_all (fresh_state image)
    under_front (Err why) = unrun (Unread why) (fresh_state image)

    -- "starts fresh under a given table image (a refused one ends it with 1)": with its place, and the state of the empty table
    unfoldable pub under_table : Result Unit BadTable → Left
    under_table (Ok tt) = under_front (shown_by recording)
    under_table (Err (Answered.At place)) = unrun (Table place) empty_state

    -- A REPLAY
    unfoldable pub replay_of : Left
    replay_of = under_table (check_table image)
