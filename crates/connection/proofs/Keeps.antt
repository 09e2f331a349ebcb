-- Each method leaves a sound record sound.
use Prim.Native.Nat.{ℕ, ◌-◌, ◌≤◌}
use lib.Dec.{eqb, leb, ltb, leb-zero}
use mathlib.Core.Path.{◌≡◌, refl, sym, ap, ◌∙◌}
use mathlib.Core.Bool.{Bool, true, false, cond, not, ◌&&◌, ◌||◌, or-true}
use borrow.Author.Tests.{eqb-true, eq-eqb, leb-true, le-leb, lt-ltb, not-true}
use native.Mathlib.Omega.{arith}
use native.Mathlib.Decide.{ℕ_discrete}
use Rattle.receive_part.specs.declared.Part.{Part}
use Rattle.receive_part.specs.declared.Part.TheVariants.{Header, Payload, Skip, Transfer}
use Rattle.receive_part.specs.Part.{shaped, empty_part, ready_part, transferring}
use Rattle.lists.proofs.Both.{impossible, and_left, and_right, and3}
use Rattle.connection.specs.declared.Mode.{Mode}
use Rattle.connection.specs.declared.Mode.TheVariants.{Offline, Reconnect, Online}
use Rattle.connection.specs.declared.Remote.{Remote}
use Rattle.connection.specs.declared.Watch.{Watch}
use Rattle.connection.specs.declared.Connection.{Connection}
use Rattle.connection.specs.declared.Config.{Config}
use Rattle.connection.specs.declared.Event.{Event}
use Rattle.connection.specs.declared.Event.TheVariants.{Open, Close, Connected, Lost, SetRemote, Switch, Cancel}
use Rattle.connection.specs.Connection.{is_offline, is_reconnect, is_online, wildcard, unwatched, with_mode, with_remote, with_switches, with_part, with_send}
use Rattle.connection.specs.Connection.{with_watch, fresh_of, become, open_of, close_of, connected_of, lost_of, remote_of, alive_after, met_of}
use Rattle.connection.specs.Connection.{closed_of, started_of, reach_of, run_of, expires, let_go_of, sunk_of, onward, tick_of}
use Rattle.connection.specs.Event.{open_allowed, close_allowed, connected_allowed, lost_allowed, remote_allowed, cancel_allowed, allowed, record_after, step_of}
use Rattle.connection.specs.Sound.{open_rule, close_rule, SendSound, ReceiveSound, WatchSound, Sound}
use Rattle.connection.proofs.Ticks.{step-either, started}

-- a mode is one of the three
pub online_not_offline : (m : Mode) → is_online m ≡ true → is_offline m ≡ false
online_not_offline Offline p = sym p
online_not_offline Reconnect p = refl
online_not_offline Online p = refl

offline_not_online : (m : Mode) → is_offline m ≡ true → is_online m ≡ false
offline_not_online Offline p = refl
offline_not_online Reconnect p = refl
offline_not_online Online p = sym p

reconnect_is : (m : Mode) → is_reconnect m ≡ true → m ≡ Reconnect
reconnect_is Offline p = impossible p
reconnect_is Reconnect p = refl
reconnect_is Online p = impossible p

or_left : (a b c : Bool) → a ≡ true → (a || b || c) ≡ true
or_left true b c p = refl
or_left false b c p = impossible p

-- what was allowed offline is allowed in every mode
weaken : (x t : Bool) → (x || (t && false)) ≡ true → (x || (t && true)) ≡ true
weaken true t p = refl
weaken false true p = refl
weaken false false p = p

-- what was allowed in any mode is allowed online
online_too : (e o t : Bool) → (e || (o && t)) ≡ true → (e || (true && t)) ≡ true
online_too true o t p = refl
online_too false true t p = p
online_too false false t p = impossible p

-- a watched record that goes online is watched
online-watched : (z o u l : Bool) → (z || (o && u && l)) ≡ true → (z || (true && u && l)) ≡ true
online-watched true o u l p = refl
online-watched false true u l p = p
online-watched false false u l p = impossible p

-- what is not TCP has no receive part in any mode
no_tcp : (e o t : Bool) → t ≡ false → (e || (o && t)) ≡ true → (e || (false && t)) ≡ true
no_tcp true o t n p = refl
no_tcp false true t n p = impossible (sym n ∙ p)
no_tcp false false t n p = impossible p

-- an alive timer that runs is on an online connection that is not TCP
watched_by : (z o u l : Bool) → z ≡ false → (z || (o && u && l)) ≡ true → (o ≡ true) × (u ≡ true) × (l ≡ true)
watched_by true o u l n p = impossible (sym n)
watched_by false o u l n p = and3 o u l p

-- one that has fallen by 1 is within the limit all the same
sunk_watched : (a n : ℕ) (o u : Bool) → (eqb a 0 || (o && u && leb a n)) ≡ true → (eqb (a - 1) 0 || (o && u && leb (a - 1) n)) ≡ true
sunk_watched a n o u p = go (ℕ_discrete a 0) (eqb a 0) refl
  where
    go : Dec (a ≡ 0) → (z : Bool) → eqb a 0 ≡ z → (eqb (a - 1) 0 || (o && u && leb (a - 1) n)) ≡ true
    go (yes e) z q = let none : a - 1 ≡ 0 = omega arith in rw (eq-eqb (a - 1) 0 none)
    go (no m) true q = absurd (m (eqb-true a 0 q))
    go (no m) false q =
        let w = watched_by (eqb a 0) o u (leb a n) q p in
        let least : a ≤ n = leb-true a n w.2 in
        rw (w.0, w.1, le-leb (a - 1) n (omega arith)) (or-true (eqb (a - 1) 0))

-- an alive timer that a source has started again, or left
met-watched : (t w : Bool) (a n : ℕ) → (t ≡ true → n ≡ 0) → (eqb (cond (w || ltb 0 a) n a) 0 || (true && not t && leb (cond (w || ltb 0 a) n a) n)) ≡ true
met-watched t w a n h = go t w (ℕ_discrete a 0) refl
  where
    self : (t' : Bool) → t ≡ t' → (eqb n 0 || (true && not t' && leb n n)) ≡ true
    self true e = rw (eq-eqb n 0 (h e))
    self false e = rw (le-leb n n (omega arith)) (or-true (eqb n 0))

    go : (t' w' : Bool) → Dec (a ≡ 0) → t ≡ t' → (eqb (cond (w' || ltb 0 a) n a) 0 || (true && not t' && leb (cond (w' || ltb 0 a) n a) n)) ≡ true
    go t' true d e = self t' e
    go t' false (yes z) e = rw z
    go t' false (no m) e = rw (lt-ltb 0 a (omega arith)) (self t' e)

-- a transfer is no empty part
pub moving : (p : Part) → transferring p ≡ true → empty_part p ≡ false
moving (Header h v) t = impossible t
moving (Payload r l h) t = impossible t
moving (Skip n) t = impossible t
moving (Transfer r n) t = refl

-- THE PARTS WITH NOTHING IN THEM: no send bytes, no receive part, nobody watched, in any mode
module _ (g : Config) (c : Connection) where
  pub nothing-sent : SendSound g (with_send 0 0 false c)
  nothing-sent = record { fits = leb-zero g.size; sending = refl; timing = refl; once = refl }

  nothing-received : ReceiveSound g (with_part ready_part c)
  nothing-received = record { shape = refl; receiving = refl }

  nobody_watched : WatchSound g (with_watch unwatched c)
  nobody_watched = record { watching = refl }

-- a record with nothing wanted or held is sound under every row, whatever row it comes from
pub bare_sound : (g h : Config) → Sound g (fresh_of h)
bare_sound g h =
    record {
      send = nothing-sent g (fresh_of h);
      wishes = record { reached = refl; opening = refl; closing = refl };
      receive = nothing-received g (fresh_of h);
      watch = nobody_watched g (fresh_of h);
    }

pub fresh-sound : (g : Config) → Sound g (fresh_of g)
fresh-sound g = bare_sound g g

module _ (g : Config) (c : Connection) (s : Sound g c) where
  -- other wishes, where their two rules allow them
  pub wishes-keep : (o k : Bool) → open_rule g (with_mode c.mode o k c) ≡ true → close_rule g (with_mode c.mode o k c) ≡ true
      → Sound g (with_mode c.mode o k c)
  wishes-keep o k p q =
      record {
        send = s.send;
        wishes = record { reached = s.wishes.reached; opening = p; closing = q };
        receive = s.receive;
        watch = s.watch;
      }

  pub open_keeps : open_allowed g c ≡ true → Sound g (open_of c)
  open_keeps a = wishes-keep true c.close_wanted a s.wishes.closing

  pub close_keeps : close_allowed g c ≡ true → Sound g (close_of c)
  close_keeps a = wishes-keep false true refl (rw (and_left (not g.automatic) _ a))

  -- R19.8: only an online TCP record has a transfer
  pub moves-online : transferring c.part ≡ true → (is_online c.mode && g.tcp) ≡ true
  moves-online t = rw (moving c.part t) at s.receive.receiving

  -- the close that a cancel wants stands on an online TCP record, automatic or not
  pub cancel_keeps : cancel_allowed c ≡ true → Sound g (close_of c)
  cancel_keeps t =
      let up = moves-online t in
      let off : is_offline c.mode ≡ false = online_not_offline c.mode (and_left (is_online c.mode) _ up) in
      wishes-keep false true refl (rw (and_right (is_online c.mode) g.tcp up, off) (or-true (not g.automatic)))

  -- a record that is not offline goes online: no open is wanted, and no close that was not
  up_keeps : (r : Remote) (v : Watch) → is_offline c.mode ≡ false → not c.close_wanted ≡ true → wildcard r ≡ false
      → WatchSound g (with_watch v (become Online c)) → Sound g (with_watch v (become Online (with_remote r c)))
  up_keeps r v off k w a =
      record {
        send = record { fits = s.send.fits; sending = or-true (eqb c.used 0); timing = s.send.timing; once = s.send.once };
        wishes = record {
          reached = ap not w;
          opening = rw off at s.wishes.opening;
          closing = or_left (not c.close_wanted) (not g.automatic) (g.tcp && true) k;
        };
        receive = record { shape = s.receive.shape; receiving = online_too (empty_part c.part) (is_online c.mode) g.tcp s.receive.receiving };
        watch = a;
      }

  still-watched : WatchSound g (become Online c)
  still-watched =
      record { watching = online-watched (eqb c.watch.alive 0) (is_online c.mode) (not g.tcp) (leb c.watch.alive g.alive) s.watch.watching }

  pub connected_keeps : connected_allowed g c ≡ true → Sound g (connected_of c)
  connected_keeps a =
      let t = and3 (g.tcp && is_reconnect c.mode) (not c.close_wanted) (not (wildcard c.remote)) a in
      let m : c.mode ≡ Reconnect = reconnect_is c.mode (and_right g.tcp _ t.0) in
      up_keeps c.remote c.watch (ap is_offline m) t.1 (not-true _ t.2) still-watched

  -- a datagram or an accept, of a member that is reconnect or online without close wanted, under a row that limits no TCP connection
  pub met_keeps : (r : Remote) → (g.tcp ≡ true → g.alive ≡ 0) → (not (is_offline c.mode) && not c.close_wanted) ≡ true → wildcard r ≡ false
      → Sound g (met_of g r c)
  unfolding alive_after
  met_keeps r n a w =
      up_keeps r _ (not-true _ (and_left (not (is_offline c.mode)) _ a)) (and_right (not (is_offline c.mode)) _ a) w
      (record { watching = met-watched g.tcp (wildcard c.remote) c.watch.alive g.alive n })

  pub lost_keeps : lost_allowed g c ≡ true → Sound g (lost_of g c)
  lost_keeps a =
      let off : is_offline c.mode ≡ false = online_not_offline c.mode (and_right g.tcp _ a) in
      record {
        send = nothing-sent g c;
        wishes = record { reached = refl; opening = rw off at s.wishes.opening; closing = rw off at s.wishes.closing };
        receive = nothing-received g c;
        watch = nobody_watched g c;
      }

  pub remote_keeps : (r : Remote) → remote_allowed c ≡ true → Sound g (remote_of r c)
  remote_keeps r a =
      record {
        send = s.send;
        wishes = record { reached = rw a; opening = s.wishes.opening; closing = s.wishes.closing };
        receive = s.receive;
        watch = s.watch;
      }

  pub switches-keep : (w : ℕ) → Sound g (with_switches w c)
  switches-keep w =
      record {
        send = s.send;
        wishes = s.wishes;
        receive = s.receive;
        watch = s.watch;
      }

  -- an online TCP record has any receive part that is shaped
  pub part_keeps : (p : Part) → shaped p ≡ true → (is_online c.mode && g.tcp) ≡ true → Sound g (with_part p c)
  part_keeps p q a =
      record {
        send = s.send;
        wishes = s.wishes;
        receive = record { shape = q; receiving = rw a (or-true (empty_part p)) };
        watch = s.watch;
      }

  -- a record has any send bytes that meet their rules
  pub send_keeps : (u t : ℕ) (d : Bool) → SendSound g (with_send u t d c) → Sound g (with_send u t d c)
  send_keeps u t d p =
      record {
        send = p;
        wishes = s.wishes;
        receive = s.receive;
        watch = s.watch;
      }

  -- every event that is allowed
  pub after_keeps : (e : Event) → allowed e g c ≡ true → Sound g (record_after e g c)
  after_keeps Open a = open_keeps a
  after_keeps Close a = close_keeps a
  after_keeps Connected a = connected_keeps a
  after_keeps Lost a = lost_keeps a
  after_keeps (SetRemote r) a = remote_keeps r a
  after_keeps (Switch n on) a = switches-keep _
  after_keeps Cancel a = cancel_keeps a

  -- every event, allowed or not
  pub step_keeps : (e : Event) → Sound g (step_of e g c).connection
  step_keeps e = step-either e g c (Sound g) (λ _. s) (after_keeps e)

  -- the three steps of a tick that goes on
  pub start_keeps : Sound g (started_of g c)
  unfolding started_of
  start_keeps = go (is_offline c.mode && (c.open_wanted || g.automatic)) refl
    where
      go : (b : Bool) → (is_offline c.mode && (c.open_wanted || g.automatic)) ≡ b → Sound g (cond b (with_mode Reconnect false c.close_wanted c) c)
      go false e = s
      go true e =
          let off : is_offline c.mode ≡ true = and_left (is_offline c.mode) _ e in
          let on : is_online c.mode ≡ false = offline_not_online c.mode off in
          record {
            send = record { fits = s.send.fits; sending = rw on at s.send.sending; timing = s.send.timing; once = s.send.once };
            wishes = record {
              reached = refl;
              opening = refl;
              closing = weaken (not c.close_wanted || not g.automatic) g.tcp (rw off at s.wishes.closing);
            };
            receive = record { shape = s.receive.shape; receiving = rw on at s.receive.receiving };
            watch = record { watching = rw on at s.watch.watching };
          }

  pub reach_keeps : c.close_wanted ≡ false → Sound g (reach_of g c)
  unfolding reach_of
  reach_keeps k = go (is_reconnect c.mode && not g.tcp && not (wildcard c.remote)) refl
    where
      go : (b : Bool) → (is_reconnect c.mode && not g.tcp && not (wildcard c.remote)) ≡ b → Sound g (cond b (become Online c) c)
      go false e = s
      go true e =
          let t = and3 (is_reconnect c.mode) (not g.tcp) (not (wildcard c.remote)) e in
          let m : c.mode ≡ Reconnect = reconnect_is c.mode t.0 in
          up_keeps c.remote c.watch (ap is_offline m) (ap not k) (not-true _ t.2) still-watched

  pub run_keeps : Sound g (run_of c)
  unfolding run_of
  run_keeps = go (eqb c.timer 0) refl
    where
      last : (b d : Bool) → eqb c.timer 1 ≡ b → d ≡ false → (eqb (c.timer - 1) 0 || not (b || d)) ≡ true
      last true d e n =
          let one : c.timer ≡ 1 = eqb-true _ _ e in
          let none : c.timer - 1 ≡ 0 = omega arith in
          rw (eq-eqb _ _ none)
      last false d e n = rw n (or-true (eqb (c.timer - 1) 0))

      go : (b : Bool) → eqb c.timer 0 ≡ b → Sound g (cond b c (with_send c.used (c.timer - 1) (eqb c.timer 1 || c.due) c))
      go true e = s
      go false e =
          let waiting : ltb 0 c.used ≡ true = rw e at s.send.timing in
          let quiet : c.due ≡ false = not-true _ (rw e at s.send.once) in
          send_keeps c.used (c.timer - 1) (eqb c.timer 1 || c.due) (record {
            fits = s.send.fits;
            sending = s.send.sending;
            timing = rw waiting (or-true (eqb (c.timer - 1) 0 && not (eqb c.timer 1 || c.due)));
            once = last (eqb c.timer 1) c.due refl quiet;
          })

  -- the alive part of a tick
  pub sink_keeps : Sound g (sunk_of c)
  sink_keeps =
      record {
        send = s.send;
        wishes = s.wishes;
        receive = s.receive;
        watch = record { watching = sunk_watched c.watch.alive g.alive (is_online c.mode) (not g.tcp) s.watch.watching };
      }

  -- an alive timer that ends is on an online connection that is not TCP
  pub let_go_watched : expires g c ≡ true → (is_online c.mode ≡ true) × (not g.tcp ≡ true)
  let_go_watched e =
      let one : c.watch.alive ≡ 1 = eqb-true _ _ (and3 (eqb c.watch.alive 1) (not c.watch.remote_set) (not g.tcp) e).0 in
      let w = watched_by (eqb c.watch.alive 0) (is_online c.mode) (not g.tcp) (leb c.watch.alive g.alive) (rw one) s.watch.watching in
      (w.0, w.1)

  -- a UDP connection that goes back to reconnect: it holds no receive part
  pub back_keeps : is_offline c.mode ≡ false → g.tcp ≡ false → Sound g (let_go_of g c)
  back_keeps off udp =
      record {
        send = nothing-sent g c;
        wishes = record { reached = refl; opening = rw off at s.wishes.opening; closing = rw off at s.wishes.closing };
        receive = record { shape = s.receive.shape; receiving = no_tcp (empty_part c.part) (is_online c.mode) g.tcp udp s.receive.receiving };
        watch = nobody_watched g c;
      }

  pub let_go_keeps : expires g c ≡ true → Sound g (let_go_of g c)
  let_go_keeps e = let w = let_go_watched e in back_keeps (online_not_offline c.mode w.0) (not-true _ w.1)

pub tick_keeps : (g : Config) (c : Connection) → Sound g c → Sound g (tick_of g c)
unfolding tick_of
tick_keeps g c s = go c.close_wanted (expires g c) refl refl
  where
    go : (b e : Bool) → c.close_wanted ≡ b → expires g c ≡ e → Sound g (cond b (closed_of g c) (cond e (let_go_of g c) (onward g c)))
    go true e p q = switches-keep g (fresh_of g) (fresh-sound g) c.switches
    go false true p q = let_go_keeps g c s q
    go false false p q =
        run_keeps g (reach_of g (started_of g (sunk_of c)))
        (reach_keeps g (started_of g (sunk_of c)) (start_keeps g (sunk_of c) (sink_keeps g c s)) ((started g (sunk_of c)).wish ∙ p))
