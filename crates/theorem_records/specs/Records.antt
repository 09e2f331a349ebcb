-- WHOSE REMOTE A RECORD HAS after an event (R8.6, R8.7, R9.2, R10.9, R20.4), with the mark that the upper layer set it (R20.5, R20.6),
-- and WHAT FOLLOWS A TAKE of its waiting bytes (R10.6, R10.7, R10.9), field by field.
use Rattle.std.specs.Prelude.{ℕ, ◌<◌, ◌≤◌, ◌≡◌, Bool, true, false}
use Rattle.connection.specs.declared.Mode.TheVariants.{Reconnect}
use Rattle.connection.specs.declared.Config.{Config}
use Rattle.connection.specs.declared.Connection.{Connection}
use Rattle.connection.specs.declared.Remote.{Remote}
use Rattle.connection.specs.declared.Event.{Event}
use Rattle.connection.specs.declared.Event.TheVariants.{Open, Close, Connected, Lost, SetRemote, Switch, Cancel}
use Rattle.connection.specs.Connection.{wildcard, unwatched, expires}
use Rattle.connection.specs.Event.{lost_allowed, remote_allowed}

-- a connection event: the configured remote without the mark after a loss that is allowed, the given one with the mark where it may be set
-- (also where the given one is the configured one), else both as they were
pub data RemoteAfter (g : Config) (c : Connection) : Event → Remote → Bool → Type 0 where
  lost_configured : lost_allowed g c ≡ true → RemoteAfter g c Lost g.remote false
  lost_refused : lost_allowed g c ≡ false → RemoteAfter g c Lost c.remote c.watch.remote_set
  set_given : (r : Remote) → remote_allowed c ≡ true → RemoteAfter g c (SetRemote r) r true
  set_refused : (r : Remote) → remote_allowed c ≡ false → RemoteAfter g c (SetRemote r) c.remote c.watch.remote_set
  kept_open : RemoteAfter g c Open c.remote c.watch.remote_set
  kept_close : RemoteAfter g c Close c.remote c.watch.remote_set
  kept_connected : RemoteAfter g c Connected c.remote c.watch.remote_set
  kept_switch : (n : ℕ) (position : Bool) → RemoteAfter g c (Switch n position) c.remote c.watch.remote_set
  kept_cancel : RemoteAfter g c Cancel c.remote c.watch.remote_set

-- a tick: the configured remote without the mark where it closes or lets go, else both as they were
pub data RemoteAtTick (g : Config) (c : Connection) : Remote → Bool → Type 0 where
  closed_configured : c.close_wanted ≡ true → RemoteAtTick g c g.remote false
  let_go_configured : c.close_wanted ≡ false → expires g c ≡ true → RemoteAtTick g c g.remote false
  kept_ticking : c.close_wanted ≡ false → expires g c ≡ false → RemoteAtTick g c c.remote c.watch.remote_set

-- WHAT A TAKE LEAVES, x of the record c, into an out buffer of so much room
module _ (g : Config) (room : ℕ) (c x : Connection) where
  -- used, timer and due mark cleared, the other fields but mode, close wanted, remote and watch as they were
  pub record Drained : Type 0 where
    pub used : x.used ≡ 0
    pub timer : x.timer ≡ 0
    pub due : x.due ≡ false
    pub «open» : x.open_wanted ≡ c.open_wanted
    pub switches : x.switches ≡ c.switches
    pub part : x.part ≡ c.part

  -- R10.9: automatic, and the configured remote has a wildcard
  abbrev pub ServesAnyone : Type 0
  ServesAnyone = (g.automatic ≡ true) × (wildcard g.remote ≡ true)

  pub data TakeLeaves : Type 0 where
    -- nothing waits, or the room is too small: all as it was
    nothing_taken : (0 < c.used → room < c.used) → x ≡ c → TakeLeaves
    -- 00582: such a UDP connection waits for anyone again, and nobody is watched
    back_to_reconnect : 0 < c.used → c.used ≤ room → Drained → ServesAnyone → g.tcp ≡ false
        → x.mode ≡ Reconnect → x.remote ≡ g.remote → x.watch ≡ unwatched → x.close_wanted ≡ c.close_wanted → TakeLeaves
    -- 00644: such a TCP connection is to be closed
    to_be_closed : 0 < c.used → c.used ≤ room → Drained → ServesAnyone → g.tcp ≡ true
        → x.mode ≡ c.mode → x.remote ≡ c.remote → x.watch ≡ c.watch → x.close_wanted ≡ true → TakeLeaves
    -- any other stays as it is
    stays_as_it_is : 0 < c.used → c.used ≤ room → Drained → (ServesAnyone → ⊥)
        → x.mode ≡ c.mode → x.remote ≡ c.remote → x.watch ≡ c.watch → x.close_wanted ≡ c.close_wanted → TakeLeaves
