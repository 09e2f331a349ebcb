-- One connection record (R2.2), and what each event makes of it (sections 8 and 9 of the rules).
use Rattle.std.specs.Prelude.{ℕ, ◌-◌, ◌^◌, eqb, ltb, Bool, true, false, cond, not, ◌&&◌, ◌||◌}
use Rattle.std.specs.Int.Bits.{bit_or, bit_xor}
use Rattle.receive_part.specs.declared.Part.{Part}
use Rattle.receive_part.specs.Part.{ready_part, transferring}
use Rattle.connection.specs.declared.Mode.{Mode}
use Rattle.connection.specs.declared.Mode.TheVariants.{Offline, Reconnect, Online}
use Rattle.connection.specs.declared.Remote.{Remote}
use Rattle.connection.specs.declared.Fields.{Fields}
use Rattle.connection.specs.declared.Watch.{Watch}
use Rattle.connection.specs.declared.Connection.{Connection}
use Rattle.connection.specs.declared.Config.{Config}

abbrev pub is_offline : Mode → Bool
is_offline Offline = true
is_offline Reconnect = false
is_offline Online = false

abbrev pub is_reconnect : Mode → Bool
is_reconnect Offline = false
is_reconnect Reconnect = true
is_reconnect Online = false

abbrev pub is_online : Mode → Bool
is_online Offline = false
is_online Reconnect = false
is_online Online = true

-- which fields of two remotes are equal
abbrev pub equal_fields : Remote → Remote → Fields
equal_fields a b = record { address = eqb a.address b.address; port = eqb a.port b.port }

-- which fields of a remote are a wildcard: address 0, port 0
abbrev pub wild_fields : Remote → Fields
wild_fields r = record { address = eqb r.address 0; port = eqb r.port 0 }

-- a remote has a wildcard when its address or its port is one
abbrev pub wildcard : Remote → Bool
wildcard r = (wild_fields r).address || (wild_fields r).port

-- no alive timer runs, and the upper layer has not set the remote
abbrev pub unwatched : Watch
unwatched = record { alive = 0; remote_set = false }

-- another alive timer; the mark that the upper layer set the remote; each time the rest of the watch stays
abbrev pub alive_at : ℕ → Watch → Watch
alive_at a w = record { alive = a; remote_set = w.remote_set }

abbrev pub mark_set : Watch → Watch
mark_set w = record { alive = w.alive; remote_set = true }

-- The record with some fields replaced: what events make of it is said through the six definitions after this one, which alone writes the
-- fields out. A field that none of the six replaces is taken over here.
abbrev remade : Mode → Bool → Bool → Remote → ℕ → Part → ℕ → ℕ → Bool → Watch → Connection → Connection
remade m o k r w p u t d v c =
    record {
      mode = m;
      open_wanted = o;
      close_wanted = k;
      remote = r;
      switches = w;
      part = p;
      used = u;
      timer = t;
      due = d;
      watch = v;
    }

-- another mode, other wishes (open, close)
abbrev pub with_mode : Mode → Bool → Bool → Connection → Connection
with_mode m o k c = remade m o k c.remote c.switches c.part c.used c.timer c.due c.watch c

abbrev pub with_remote : Remote → Connection → Connection
with_remote r c = remade c.mode c.open_wanted c.close_wanted r c.switches c.part c.used c.timer c.due c.watch c

abbrev pub with_switches : ℕ → Connection → Connection
with_switches w c = remade c.mode c.open_wanted c.close_wanted c.remote w c.part c.used c.timer c.due c.watch c

abbrev pub with_part : Part → Connection → Connection
with_part p c = remade c.mode c.open_wanted c.close_wanted c.remote c.switches p c.used c.timer c.due c.watch c

-- other send bytes, timer, due mark
abbrev pub with_send : ℕ → ℕ → Bool → Connection → Connection
with_send u t d c = remade c.mode c.open_wanted c.close_wanted c.remote c.switches c.part u t d c.watch c

-- another alive timer, another mark that the upper layer set the remote
abbrev pub with_watch : Watch → Connection → Connection
with_watch v c = remade c.mode c.open_wanted c.close_wanted c.remote c.switches c.part c.used c.timer c.due v c

-- R2.12: a fresh record is offline, wants and holds nothing, and has remote and switches from the table
abbrev pub fresh_of : Config → Connection
fresh_of g =
    record {
      mode = Offline;
      open_wanted = false;
      close_wanted = false;
      remote = g.remote;
      switches = g.switches;
      part = ready_part;
      used = 0;
      timer = 0;
      due = false;
      watch = unwatched;
    }

-- a remote that is all zero: both fields a wildcard
abbrev pub zero_remote : Remote
zero_remote = record { address = 0; port = 0 }

-- the configuration of a row that is all zero
abbrev pub zero_config : Config
zero_config = record { tcp = false; automatic = false; remote = zero_remote; size = 0; alive = 0; switches = 0 }

-- the record that is all zero: fresh, with nothing from a table
abbrev pub zero_record : Connection
zero_record = fresh_of zero_config

-- the wishes stay, the mode changes
abbrev pub become : Mode → Connection → Connection
become m c = with_mode m c.open_wanted c.close_wanted c

-- nothing held: no receive part and no send bytes, so the timer is stopped and nothing is due
abbrev pub emptied : Connection → Connection
emptied c = with_part ready_part (with_send 0 0 false c)

-- R8.3: open sets open wanted
abbrev pub open_of : Connection → Connection
open_of c = with_mode c.mode true c.close_wanted c

-- R8.4: close sets close wanted and clears open wanted
abbrev pub close_of : Connection → Connection
close_of c = with_mode c.mode false true c

-- R8.5: connected becomes online
abbrev pub connected_of : Connection → Connection
connected_of c = become Online c

-- R20.6: the configured remote is back, so the upper layer's is gone and nobody is watched
abbrev pub reset_of : Config → Connection → Connection
reset_of g c = with_watch unwatched (with_remote g.remote c)

-- R8.6: lost becomes reconnect, drops what it holds, and takes the configured remote
abbrev pub lost_of : Config → Connection → Connection
lost_of g c = become Reconnect (reset_of g (emptied c))

-- R8.7, R20.5: set remote, with the mark that the upper layer did
abbrev pub remote_of : Remote → Connection → Connection
remote_of r c = with_watch (mark_set c.watch) (with_remote r c)

-- R20.3: a source that replaces a wildcard starts the alive timer at the limit, and while it runs every source starts it again
unfoldable pub alive_after : Config → Connection → ℕ
alive_after g c = cond (wildcard c.remote || ltb 0 c.watch.alive) g.alive c.watch.alive

-- R7.6: it becomes online with the source as remote; the mark stays
abbrev pub met_of : Config → Remote → Connection → Connection
met_of g source c = with_watch (alive_at (alive_after g c) c.watch) (become Online (with_remote source c))

-- R2.3: switch n is the bit worth 2 to the n; a number above 31 is no switch
unfoldable pub worth : ℕ → ℕ
worth n = cond (ltb n 32) (2 ^ n) 0

-- the switches with switch n on; or set and then turned over, which is off
unfoldable pub switch_of : ℕ → Bool → ℕ → ℕ
switch_of n on w = cond on (bit_or w (worth n)) (bit_xor (bit_or w (worth n)) (worth n))

-- R8.8: one switch of one connection
abbrev pub switched_of : ℕ → Bool → Connection → Connection
switched_of n on c = with_switches (switch_of n on c.switches) c

-- R9.2: with close wanted back to the fresh record, but for the switches
abbrev pub closed_of : Config → Connection → Connection
closed_of g c = with_switches c.switches (fresh_of g)

-- R9.3: offline with open wanted or automatic becomes reconnect, open wanted cleared
unfoldable pub started_of : Config → Connection → Connection
started_of g c = cond (is_offline c.mode && (c.open_wanted || g.automatic)) (with_mode Reconnect false c.close_wanted c) c

-- R9.4: then UDP reconnect without wildcard becomes online
unfoldable pub reach_of : Config → Connection → Connection
reach_of g c = cond (is_reconnect c.mode && not g.tcp && not (wildcard c.remote)) (become Online c) c

-- R9.5: a running timer falls by 1 and at 0 becomes due
unfoldable pub run_of : Connection → Connection
run_of c = cond (eqb c.timer 0) c (with_send c.used (c.timer - 1) (eqb c.timer 1 || c.due) c)

-- R20.4: the alive timer ends with the next tick, and the upper layer has not set the remote; a TCP connection has no alive timer
abbrev pub expires : Config → Connection → Bool
expires g c = eqb c.watch.alive 1 && not c.watch.remote_set && not g.tcp

-- R20.4, let go: reconnect, the send bytes dropped, the configured remote
abbrev pub let_go_of : Config → Connection → Connection
let_go_of g c = become Reconnect (reset_of g (with_send 0 0 false c))

-- R20.4: else a running alive timer falls by 1; at 0 it has stopped
abbrev pub sunk_of : Connection → Connection
sunk_of c = with_watch (alive_at (c.watch.alive - 1) c.watch) c

-- what a tick does where it neither closes nor lets go: R9.3, R9.4, R9.5
abbrev pub onward : Config → Connection → Connection
onward g c = run_of (reach_of g (started_of g (sunk_of c)))

-- R9.1, a tick: with close wanted R9.2 and nothing more; then R20.4, and nothing more where it lets go; otherwise R9.3, R9.4, R9.5
unfoldable pub tick_of : Config → Connection → Connection
tick_of g c = cond c.close_wanted (closed_of g c) (cond (expires g c) (let_go_of g c) (onward g c))

-- R19.7: what a connection had before an event that takes nothing, and has after it: a transfer that ran has failed when none runs now
abbrev pub failed_of : Connection → Connection → Bool
failed_of before after = transferring before.part && not (transferring after.part)
