-- One record: what an arrival, an append and a take leave sound.
use Prim.Native.Nat.{ℕ, ◌+◌}
use mathlib.Core.Path.{◌≡◌, refl, sym, ◌∙◌}
use mathlib.Core.Bool.{Bool, true, false, cond, not, ◌&&◌, ◌||◌, or-true}
use native.Mathlib.Omega.{arith}
use lib.Dec.{eqb, ltb}
use borrow.Author.Tests.{le-leb, lt-ltb}
use Rattle.lists.proofs.Both.{impossible, neither}
use Rattle.connection.specs.declared.Mode.{Mode}
use Rattle.connection.specs.declared.Mode.TheVariants.{Offline, Reconnect, Online}
use Rattle.connection.specs.declared.Config.{Config}
use Rattle.connection.specs.declared.Connection.{Connection}
use Rattle.connection.specs.Connection.{is_offline, is_reconnect, is_online, with_mode, with_send, become, reset_of}
use Rattle.connection.specs.Sound.{Sound}
use Rattle.connection.proofs.Keeps.{online_not_offline, nothing-sent, wishes-keep, send_keeps, back_keeps}
use Rattle.table_rows.specs.declared.DestinationRow.{DestinationRow}
use Rattle.select.specs.Choose.{member_counts}
use Rattle.send_destination.specs.Destination.{timer_of, sent_of}
use Rattle.send.proofs.Room.{Meets}
use Rattle.send_waiting.specs.Waiting.{take_of}
use Rattle.send_waiting.proofs.Taken.{after-either, take-either}

-- a member that counts is not offline and not to be closed
pub counts_up : (accept : Bool) (c : Connection) → member_counts accept c ≡ true → (not (is_offline c.mode) && not c.close_wanted) ≡ true
counts_up accept c = go c.mode accept
  where
    go : (m : Mode) (a : Bool) → ((is_reconnect m || (not a && is_online m)) && not c.close_wanted) ≡ true
        → (not (is_offline m) && not c.close_wanted) ≡ true
    go Offline true e = impossible e
    go Offline false e = impossible e
    go Reconnect a e = e
    go Online true e = impossible e
    go Online false e = e

-- due and a running timer never come together
never_both : (trigger due : Bool) (timeout timer : ℕ) → (eqb timer 0 || not due) ≡ true
    → (eqb (timer_of trigger timeout timer due) 0 || not (trigger || due)) ≡ true
unfolding timer_of
never_both true due timeout timer h = refl
never_both false true timeout timer h = h
never_both false false timeout timer h = or-true (eqb (cond (true && ltb 0 timeout && (eqb timer 0 || ltb timeout timer)) timeout timer) 0)

-- an append
pub sent_keeps : (g : Config) (d : DestinationRow) (len : ℕ) (c : Connection) → Sound g c → Meets len g.size d c → Sound g (sent_of d (c.used + 8 + len) c)
sent_keeps g d len c s m =
    let timer = timer_of d.trigger d.timeout c.timer c.due in
    send_keeps g c s (c.used + 8 + len) timer (d.trigger || c.due) (record {
      fits = le-leb _ _ m.room;
      sending = rw m.up (or-true (eqb (c.used + 8 + len) 0));
      timing = rw (lt-ltb 0 (c.used + 8 + len) (omega arith)) (or-true (eqb timer 0 && not (d.trigger || c.due)));
      once = never_both d.trigger c.due d.timeout c.timer s.send.once;
    })

-- a record with send bytes is online, so no open is wanted
module _ (g : Config) (c : Connection) (s : Sound g c) (some : eqb c.used 0 ≡ false) where
  online : is_online c.mode ≡ true
  online = rw some at s.send.sending

  no_open : c.open_wanted ≡ false
  no_open = go c.mode c.open_wanted online s.wishes.opening
    where
      go : (m : Mode) (o : Bool) → is_online m ≡ true → (not o || (not g.automatic && is_offline m && not c.close_wanted)) ≡ true → o ≡ false
      go m false u e = refl
      go Offline true u e = impossible u
      go Reconnect true u e = impossible u
      go Online true u e = impossible (sym (off (not g.automatic)) ∙ e)
        where
          off : (a : Bool) → (a && false && not c.close_wanted) ≡ false
          off true = refl
          off false = refl

  -- nothing waiting any more
  drained : Sound g (with_send 0 0 false c)
  drained = send_keeps g c s 0 0 false (nothing-sent g c)

  -- 00644
  tcp_close : g.tcp ≡ true → Sound g (with_mode c.mode c.open_wanted true (with_send 0 0 false c))
  tcp_close t =
      wishes-keep g (with_send 0 0 false c) drained c.open_wanted true (rw no_open)
      (rw (t, online_not_offline c.mode online) (or-true (not g.automatic)))

  -- 00582
  udp_back : g.tcp ≡ false → Sound g (become Reconnect (reset_of g (with_send 0 0 false c)))
  udp_back t = back_keeps g c s (online_not_offline c.mode online) t

-- a take
pub take_keeps : (g : Config) (room : ℕ) (c : Connection) → Sound g c → Sound g (take_of g room c)
take_keeps g room c s =
    take-either g room c (Sound g) (λ _. s)
    (λ e.
    let some : eqb c.used 0 ≡ false = (neither (eqb c.used 0) (ltb room c.used) e).0 in
    after-either g (with_send 0 0 false c) (Sound g) (drained g c s some) (λ a t. tcp_close g c s some t) (λ a t. udp_back g c s some t))
