-- `Connection::sound` meets its contract: every rule is tested.
use Rattle.connection.specs.Sound.{sound_of}
use Rattle.connection.proofs.Connection.sound.Goals as goal

pub returns : goal.returns
unfolding sound_of
returns c =
    rw (
      c.has_wildcard-wild.ensures,
      c.is_empty-empty.ensures,
      c.is_shaped-shaped.ensures,
      c.is_offline-offline.ensures,
      c.is_online-online.ensures,
    )
