-- ONE STEP OF THE WORLD, A RUN, AND WHAT A CONNECTION HAS HANDED OUT.
use Rattle.std.specs.Prelude.{ℕ, zero, suc, Bool, true, false, cond, not, ◌&&◌, List, [], ◌∷◌, ◌++◌, length, set, eqb, leb, ltb}
use Rattle.connection.specs.declared.Config.{Config}
use Rattle.connection.specs.Event.{receiving, step_of}
use Rattle.state.specs.State.{counted}
use Rattle.reading.specs.Feed.{Routes, Out, Ran, segment_ran as segment_of, finely, drops}
use Rattle.reading_walk.specs.Walk.{walk_at, outs_told}
use Rattle.send_waiting.specs.Waiting.{take_of}
use Rattle.model.specs.World.{Held, World, held_at, cell_at, with_cell, follow}
use Rattle.model.specs.Events.{Own, change, segment, walk, take_waiting, Whole, Event, on, on_whole}

-- what the accepted table says: how many connections there are, each one's row, and what its routes say as its switches stand
pub record Table : Type 0 where
  pub rows : ℕ
  pub config : ℕ → Config
  pub routes : ℕ → ℕ → Routes

-- R2.6: a count after so many drops
unfoldable pub count_after : ℕ → ℕ → ℕ
count_after zero n = n
count_after (suc drops) n = count_after drops (counted n)

-- only where the drops are of this protocol
abbrev pub count_after_if : Bool → ℕ → ℕ → ℕ
count_after_if true drops n = count_after drops n
count_after_if false drops n = n

-- what an event makes of its connection, and the outcomes that it gives, a transfer's byte by byte (R19.9)
pub record Acted : Type 0 where
  pub to : Held
  pub list : List Out

abbrev pub acted : Held → List Out → Acted
acted h os = record { to = h; list = os }

-- what the takes over a segment leave and give
abbrev pub streamed : Held → Ran → Acted
streamed h r = acted (with_cell r.to h) r.list

module _ (T : Table) where
  -- the routes of connection k, as the switches of its record stand
  abbrev pub routes_at : ℕ → Held → Routes
  routes_at k h = T.routes k h.connection.switches

  -- an event of connection k on its record; a refusal changes nothing and gives nothing
  unfoldable pub does : ℕ → Own → Held → Acted
  does k (change e) h = acted (follow (step_of e (T.config k) h.connection).connection h) []
  does k (segment bytes) h = cond ((T.config k).tcp && receiving h.connection) (streamed h (finely (segment_of (routes_at k h) (cell_at h) bytes))) (acted h [])
  does k (walk datagram place) h =
      cond (not (T.config k).tcp && leb place (length datagram) && receiving h.connection)
      (acted h (outs_told datagram (walk_at (routes_at k h) datagram place).found []))
      (acted h [])
  does k (take_waiting room) h = acted (follow (take_of (T.config k) room h.connection) h) []

  -- R4.4: a connection that is not there
  unfoldable pub acts : ℕ → Own → Held → Acted
  acts k e h = cond (ltb k T.rows) (does k e h) (acted h [])

  -- at connection k of a world
  abbrev pub acts_at : World → ℕ → Own → Acted
  acts_at w k e = acts k e (held_at w k)

  -- a world after what connection k did: its record, and its protocol's count
  abbrev pub left : World → ℕ → Acted → World
  left w k a =
      record {
        held = set w.held k a.to;
        udp = count_after_if (not (T.config k).tcp) (drops a.list) w.udp;
        tcp = count_after_if (T.config k).tcp (drops a.list) w.tcp;
      }

  -- ONE EVENT; `whole` says what an event of a whole group or module makes of the world
  module _ (whole : Whole → World → World) where
    unfoldable pub step : World → Event → World
    step w (on k e) = left w k (acts_at w k e)
    step w (on_whole e) = whole e w

    -- A RUN
    unfoldable pub run : World → List Event → World
    run w [] = w
    run w (e ∷ es) = run (step w e) es

    -- the outcomes that connection k gives at an event, and in a run: PDUs, and drops with their reason, id and length
    unfoldable pub hands : ℕ → World → Event → List Out
    hands k w (on i e) = cond (eqb i k) (acts_at w i e).list []
    hands k w (on_whole e) = []

    unfoldable pub heard : ℕ → World → List Event → List Out
    heard k w [] = []
    heard k w (e ∷ es) = hands k w e ++ heard k (step w e) es
