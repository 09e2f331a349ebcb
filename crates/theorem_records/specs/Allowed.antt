-- WHEN A CONNECTION EVENT IS ALLOWED (R4.5), in the rule's words: 3 is given exactly where it is not.
use Rattle.std.specs.Prelude.{ℕ, ◌≡◌, Bool, true, false}
use Rattle.receive_part.specs.Part.{transferring}
use Rattle.connection.specs.declared.Mode.TheVariants.{Offline, Reconnect, Online}
use Rattle.connection.specs.declared.Config.{Config}
use Rattle.connection.specs.declared.Connection.{Connection}
use Rattle.connection.specs.declared.Remote.{Remote}
use Rattle.connection.specs.declared.Event.{Event}
use Rattle.connection.specs.declared.Event.TheVariants.{Open, Close, Connected, Lost, SetRemote, Switch, Cancel}

pub data MayHappen (g : Config) (c : Connection) : Event → Type 0 where
  -- open: not automatic, offline, close not wanted
  may_open : g.automatic ≡ false → c.mode ≡ Offline → c.close_wanted ≡ false → MayHappen g c Open
  -- close: not automatic, and open wanted or not offline
  may_close_opening : g.automatic ≡ false → c.open_wanted ≡ true → MayHappen g c Close
  may_close_up : g.automatic ≡ false → (c.mode ≡ Offline → ⊥) → MayHappen g c Close
  -- connected: TCP, reconnect, close not wanted, a remote without wildcard
  may_connect : g.tcp ≡ true → c.mode ≡ Reconnect → c.close_wanted ≡ false
      → (c.remote.address ≡ 0 → ⊥) → (c.remote.port ≡ 0 → ⊥) → MayHappen g c Connected
  -- lost: TCP online
  may_lose : g.tcp ≡ true → c.mode ≡ Online → MayHappen g c Lost
  -- set remote: not online
  may_set : (r : Remote) → (c.mode ≡ Online → ⊥) → MayHappen g c (SetRemote r)
  -- a switch: always
  may_switch : (n : ℕ) (position : Bool) → MayHappen g c (Switch n position)
  -- cancel: a transfer runs
  may_cancel : transferring c.part ≡ true → MayHappen g c Cancel
