-- A PEER THAT FALLS SILENT (R20.3, R20.4), over the edges' table and through the entry points: connection 0 waits for anybody, a datagram comes, and
-- nobody speaks again.
use Rattle.std.specs.Prelude.{ℕ, false, List, [], ◌∷◌}
use Rattle.state.specs.Fresh.{config_of}
use Rattle.example_edges.specs.Table.{image, anybody, exact}
use Rattle.example_edges.specs.Edges.{bar}
use Rattle.model.specs.Events.{walk, datagram, tick, Event, on, on_whole}
use Rattle.model_refines.specs.Machine.{Machine, machine}
use Rattle.model_refines.specs.Run.{after_event, after_run}
use Rattle.theorem_alive.specs.Alive.{Watched, LetGo, its_record}

-- what happens between: a step of a walk over the datagram, and a tick, the first of its limit of 2
abbrev pub quiet_here : List Event
quiet_here = on 0 (walk bar 0) ∷ on_whole tick ∷ []

module _ (rx tx : List ℕ) where
  -- after the datagram; after what happens then
  abbrev pub heard_once : Machine
  heard_once = after_event image (on_whole (datagram 0 exact)) (machine anybody rx tx)

  abbrev pub silent_since : Machine
  silent_since = after_run image heard_once quiet_here

  -- one tick is left, and it lets the peer go
  pub record PeerGoes : Type 0 where
    pub still : Watched exact false 1 (its_record image 0 silent_since)
    pub gone : LetGo (config_of image 0) (its_record image 0 silent_since) (its_record image 0 (after_event image (on_whole tick) silent_since))
