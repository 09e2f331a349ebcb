-- SILENT PEERS ARE LET GO (R20.3, R20.4), in the rules' words: of connection k in runs of the machine.
use Rattle.std.specs.Prelude.{ℕ, suc, ◌+◌, ◌-◌, ◌<◌, ◌≡◌, Bool, true, false, List, [], ◌∷◌, Ok}
use Rattle.connection.specs.declared.Config.{Config}
use Rattle.connection.specs.declared.Connection.{Connection}
use Rattle.connection.specs.declared.Remote.{Remote}
use Rattle.connection.specs.declared.Event.TheVariants.{Close}
use Rattle.connection.specs.Connection.{is_reconnect, is_online, wildcard, unwatched}
use Rattle.state.specs.State.{record_at}
use Rattle.entry_arrivals.specs.Arrivals.{datagram_of}
use Rattle.model.specs.Events.{change, take_waiting, datagram, accept, tick, transmit, switch_all, read_count, clear_count, Event, on, on_whole}
use Rattle.model_refines.specs.Machine.{Machine, lent_to}
use Rattle.model_refines.specs.Run.{after_event, after_run}

-- A WATCHED RECORD: online without close wanted, with this remote, its alive timer at n ticks, with the mark that the upper layer set the
-- remote or without it
pub record Watched (r : Remote) (mark : Bool) (n : ℕ) (c : Connection) : Type 0 where
  pub online : is_online c.mode ≡ true
  pub stays : c.close_wanted ≡ false
  pub peer : c.remote ≡ r
  pub alive : c.watch.alive ≡ n
  pub marked : c.watch.remote_set ≡ mark

-- LET GO, d of the record c: in reconnect with the configured remote, nothing waits, nobody is watched; switches and wishes as they were
pub record LetGo (g : Config) (c d : Connection) : Type 0 where
  pub mode : is_reconnect d.mode ≡ true
  pub remote : d.remote ≡ g.remote
  pub used : d.used ≡ 0
  pub timer : d.timer ≡ 0
  pub due : d.due ≡ false
  pub watch : d.watch ≡ unwatched
  pub switches : d.switches ≡ c.switches
  pub stays : d.close_wanted ≡ c.close_wanted

-- how many ticks a run has
abbrev pub ticks_of : Event → ℕ
ticks_of (on i e) = 0
ticks_of (on_whole (datagram group source)) = 0
ticks_of (on_whole (accept group source)) = 0
ticks_of (on_whole tick) = 1
ticks_of (on_whole (transmit pdu payload)) = 0
ticks_of (on_whole (switch_all number position)) = 0
ticks_of (on_whole (read_count protocol)) = 0
ticks_of (on_whole (clear_count protocol)) = 0

unfoldable pub ticks_in : List Event → ℕ
ticks_in [] = 0
ticks_in (e ∷ es) = ticks_of e + ticks_in es

module _ (image : List ℕ) (k : ℕ) where
  abbrev pub its_record : Machine → Connection
  its_record m = record_at m.state k

  -- the alive timer, in ticks
  abbrev pub alive_of : Machine → ℕ
  alive_of m = (its_record m).watch.alive

  -- WHAT BREAKS THE SILENCE: a datagram that connection k is answered with, a close of it, a take of its waiting bytes. All else may happen in
  -- between: events of others, its own walks, opens, switches and set remotes, transmits, datagrams for others, accepts, ticks
  pub data Breaks (m : Machine) : Event → Type 0 where
    datagram_given : (group : ℕ) (source : Remote) → (datagram_of (lent_to image m) group source).answer ≡ Ok k → Breaks m (on_whole (datagram group source))
    close_asked : Breaks m (on k (change Close))
    waiting_taken : (room : ℕ) → Breaks m (on k (take_waiting room))

  unfoldable pub Silent : Machine → List Event → Type 0
  Silent m [] = Unit
  Silent m (e ∷ es) = (Breaks m e → ⊥) × Silent (after_event image e m) es

  -- LET GO AT THE nth TICK of a silent run es from m, and not before: after fewer ticks it is watched with what is left of n, and the tick after
  -- n - 1 of them lets it go
  pub record LetGoAt (g : Config) (r : Remote) (n : ℕ) (m : Machine) (es : List Event) : Type 0 where
    pub before : ticks_in es < n → Watched r false (n - ticks_in es) (its_record (after_run image m es))
    pub at : suc (ticks_in es) ≡ n → LetGo g (its_record (after_run image m es)) (its_record (after_event image (on_whole tick) (after_run image m es)))

  -- WHAT STARTS A STOPPED TIMER: a datagram that connection k is answered with, whose record's remote had a wildcard
  pub data Starts (m : Machine) : Event → Type 0 where
    wildcard_replaced : (group : ℕ) (source : Remote) → (datagram_of (lent_to image m) group source).answer ≡ Ok k → wildcard (its_record m).remote ≡ true
        → Starts m (on_whole (datagram group source))

  -- the timer runs at each place of a run
  unfoldable pub RunsThrough : Machine → List Event → Type 0
  RunsThrough m [] = 0 < alive_of m
  RunsThrough m (e ∷ es) = (0 < alive_of m) × RunsThrough (after_event image e m) es

  -- at some place of a run it was started, and has run since
  pub data StartedIn : Machine → List Event → Type 0 where
    started_here : (m : Machine) (e : Event) (es : List Event) → Starts m e → RunsThrough (after_event image e m) es → StartedIn m (e ∷ es)
    started_later : (m : Machine) (e : Event) (es : List Event) → StartedIn (after_event image e m) es → StartedIn m (e ∷ es)
