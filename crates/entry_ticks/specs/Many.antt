-- R9.6: many ticks of one record; and at once all those of a record that has settled: the ends of its timers are taken out of sums.
use Rattle.std.specs.Prelude.{ℕ, zero, suc, ◌-◌, Bool, cond, not, ◌&&◌, ◌||◌, eqb, ltb, leb}
use Rattle.connection.specs.declared.Config.{Config}
use Rattle.connection.specs.declared.Connection.{Connection}
use Rattle.connection.specs.Connection.{is_offline, is_reconnect, is_online, wildcard, alive_at, with_send, with_watch, reach_of, let_go_of, tick_of}

-- n ticks of one record, one after the other
unfoldable pub many_of : Config → ℕ → Connection → Connection
many_of g zero c = c
many_of g (suc n) c = many_of g n (tick_of g c)

-- what a tick starts (R9.3) and what it reaches (R9.4)
abbrev pub starts_next : Config → Connection → Bool
starts_next g c = is_offline c.mode && (c.open_wanted || g.automatic)

abbrev pub reaches_next : Config → Connection → Bool
reaches_next g c = is_reconnect c.mode && not g.tcp && not (wildcard c.remote)

-- the next tick turns a record: it closes, starts or reaches
abbrev pub turns_next : Config → Connection → Bool
turns_next g c = c.close_wanted || starts_next g c || reaches_next g c

-- online and not to be closed: whatever the row says, the next tick does not turn it
abbrev pub up_of : Connection → Bool
up_of c = not c.close_wanted && is_online c.mode

-- no timer runs
abbrev pub still_of : Connection → Bool
still_of c = eqb c.timer 0 && eqb c.watch.alive 0

-- a timer that runs ends within n ticks
unfoldable pub ends_in : ℕ → ℕ → Bool
ends_in n timer = ltb 0 timer && leb timer n

-- n ticks do not let a record go, whatever its row says: the upper layer has set the remote, or the alive timer does not end among them
abbrev pub stays_of : ℕ → Connection → Bool
stays_of n c = c.watch.remote_set || not (ends_in n c.watch.alive)

-- what n ticks that only let the timers run leave: both have fallen by n, and where the send timer has ended among them it is due
abbrev pub later_by : ℕ → Connection → Connection
later_by n c =
    with_watch (alive_at (c.watch.alive - n) c.watch)
    (with_send c.used (c.timer - n) (ends_in n c.timer || c.due) c)

-- let go by the last of n ticks, or before it, so that one of those left has reached it where it can be reached
unfoldable pub gone_of : Config → ℕ → Connection → Connection
gone_of g n c = cond (leb n c.watch.alive) (let_go_of g c) (reach_of g (let_go_of g c))

-- ALL AT ONCE: n ticks of a record that the next one does not turn
unfoldable pub settled_of : Config → ℕ → Connection → Connection
settled_of g n c = cond (stays_of n c || g.tcp) (later_by n c) (gone_of g n c)
