-- ONE DESTINATION of a transmit (R10.1 to R10.4): what it says to a payload, and what an append makes of its connection's record.
use Rattle.std.specs.Prelude.{ℕ, ◌+◌, Bool, cond, not, ◌&&◌, ◌||◌, eqb, ltb}
use Rattle.connection.specs.declared.Connection.{Connection}
use Rattle.connection.specs.Connection.{is_online, with_send}
use Rattle.table_rows.specs.declared.DestinationRow.{DestinationRow}
use Rattle.switches.specs.Switches.{is_on}

-- R10.2: a switched-on destination is asked for 4, then 7, then 8; 0 where header and payload fit
unfoldable pub refusal_of : ℕ → ℕ → DestinationRow → Connection → ℕ
refusal_of len size d c =
    cond (not (is_online c.mode) || c.close_wanted) 4
    (cond (ltb d.longest len) 7
    (cond (ltb size (c.used + 8 + len)) 8 0))

-- R10.1: a destination of the PDU, as if it were the only one: 6 where it is off at the call, else the above
unfoldable pub look_of : ℕ → ℕ → DestinationRow → Connection → ℕ
look_of len size d c = cond (not (is_on d.groups c.switches)) 6 (refusal_of len size d c)

-- R10.4: trigger 1 makes it due and stops the timer; else, if not due and with a timeout above 0, the timer becomes the smaller of itself
-- and the timeout, or the timeout if it does not run
unfoldable pub timer_of : Bool → ℕ → ℕ → Bool → ℕ
timer_of trigger timeout timer due =
    cond trigger 0 (cond (not due && ltb 0 timeout && (eqb timer 0 || ltb timeout timer)) timeout timer)

-- the record after an append, with so many bytes used
abbrev pub sent_of : DestinationRow → ℕ → Connection → Connection
sent_of d used c = with_send used (timer_of d.trigger d.timeout c.timer c.due) (d.trigger || c.due) c
