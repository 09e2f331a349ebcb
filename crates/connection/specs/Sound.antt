-- When one record is sound: the rules of section 3 that speak of the record and its table row alone.
use Rattle.std.specs.Prelude.{eqb, leb, ltb, ◌≡◌, Bool, true, not, ◌&&◌, ◌||◌}
use Rattle.receive_part.specs.Part.{shaped, empty_part}
use Rattle.connection.specs.declared.Connection.{Connection}
use Rattle.connection.specs.declared.Config.{Config}
use Rattle.connection.specs.Connection.{is_offline, is_online, wild_fields, wildcard}

-- R3.2: the bytes used are at most the send size
abbrev pub used_fits : Config → Connection → Bool
used_fits g c = leb c.used g.size

-- R3.3: fewer payload bytes than the length; 0..7 header bytes; at least one byte to skip
abbrev pub part_shaped : Connection → Bool
part_shaped c = shaped c.part

-- R3.5: only an online TCP connection has a receive part
abbrev pub receives : Config → Connection → Bool
receives g c = empty_part c.part || (is_online c.mode && g.tcp)

-- R3.6: only an online connection has bytes used
abbrev pub sends : Connection → Bool
sends c = eqb c.used 0 || is_online c.mode

-- R3.7: timer or due only with bytes used
abbrev pub timed : Connection → Bool
timed c = (eqb c.timer 0 && not c.due) || ltb 0 c.used

-- R3.8: never both
abbrev pub never_both : Connection → Bool
never_both c = eqb c.timer 0 || not c.due

-- R3.9: an online remote has no wildcard
abbrev pub online_remote : Connection → Bool
online_remote c = not (is_online c.mode) || not (wildcard c.remote)

-- R3.10: open wanted only on a non-automatic offline record, and never with close wanted
abbrev pub open_rule : Config → Connection → Bool
open_rule g c = not c.open_wanted || (not g.automatic && is_offline c.mode && not c.close_wanted)

-- R3.11: close wanted never on an automatic UDP record, nor on an automatic offline one
abbrev pub close_rule : Config → Connection → Bool
close_rule g c = not c.close_wanted || not g.automatic || (g.tcp && not (is_offline c.mode))

-- R20.2: the alive timer runs only on an online UDP connection, and is at most the limit
abbrev pub watched : Config → Connection → Bool
watched g c = eqb c.watch.alive 0 || (is_online c.mode && not g.tcp && leb c.watch.alive g.alive)

-- R3.2, R3.3, R3.5 to R3.11, R20.2: all of them
unfoldable pub sound_of : Config → Connection → Bool
sound_of g c =
    used_fits g c
    && part_shaped c
    && receives g c
    && sends c
    && timed c
    && never_both c
    && online_remote c
    && open_rule g c
    && close_rule g c
    && watched g c

-- THESE RULES AS FACTS, each by its name, in four parts. A part speaks of some fields alone, so what leaves these fields leaves the part as it is:
-- a law about an event writes out the parts that the event touches, and takes the others over whole.

-- the send bytes: R3.2, R3.6, R3.7, R3.8
abbrev pub SendSound : Config → Connection → Type 0
SendSound g c = record { fits : used_fits g c ≡ true; sending : sends c ≡ true; timing : timed c ≡ true; once : never_both c ≡ true }

-- the remote and the wishes: R3.9, R3.10, R3.11
abbrev pub WishSound : Config → Connection → Type 0
WishSound g c = record { reached : online_remote c ≡ true; opening : open_rule g c ≡ true; closing : close_rule g c ≡ true }

-- the receive part: R3.3, R3.5
abbrev pub ReceiveSound : Config → Connection → Type 0
ReceiveSound g c = record { shape : part_shaped c ≡ true; receiving : receives g c ≡ true }

-- the watch: R20.2
abbrev pub WatchSound : Config → Connection → Type 0
WatchSound g c = record { watching : watched g c ≡ true }

pub record Sound (g : Config) (c : Connection) : Type 0 where
  pub send : SendSound g c
  pub wishes : WishSound g c
  pub receive : ReceiveSound g c
  pub watch : WatchSound g c

-- R2.14, R3.1: records past the row count are all zero
unfoldable pub zero_of : Connection → Bool
zero_of c =
    is_offline c.mode
    && not c.open_wanted
    && not c.close_wanted
    && ((wild_fields c.remote).address && (wild_fields c.remote).port)
    && eqb c.switches 0
    && empty_part c.part
    && eqb c.used 0
    && eqb c.timer 0
    && not c.due
    && (eqb c.watch.alive 0 && not c.watch.remote_set)
