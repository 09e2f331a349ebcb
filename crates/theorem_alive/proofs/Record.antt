-- ONE RECORD: what each event leaves of a watched one, and of an alive timer that does not run.
use Prim.Native.Nat.{ℕ, ◌-◌, ◌<◌}
use mathlib.Core.Path.{◌≡◌, refl, sym, ap, ◌∙◌}
use mathlib.Core.Bool.{Bool, true, false, cond, not, ◌&&◌, ◌||◌, false≢true}
use native.Mathlib.Omega.{arith}
use lib.Dec.{eqb, leb, ltb}
use borrow.Author.Tests.{eqb-true, ne_eqb, lt-ltb, not-true}
use Rattle.lists.proofs.Both.{and_left, and_right, and3}
use Rattle.connection.specs.declared.Config.{Config}
use Rattle.connection.specs.declared.Connection.{Connection}
use Rattle.connection.specs.declared.Remote.{Remote}
use Rattle.connection.specs.declared.Watch.{Watch}
use Rattle.connection.specs.declared.Event.{Event as Change}
use Rattle.connection.specs.declared.Event.TheVariants.{Open, Close, Connected, Lost, SetRemote, Switch, Cancel}
use Rattle.connection.specs.Connection.{is_reconnect, is_online, wildcard, with_send, alive_after, met_of, expires, let_go_of, onward, tick_of}
use Rattle.connection.specs.Event.{allowed, record_after, step_of}
use Rattle.connection.specs.Sound.{Sound}
use Rattle.connection.proofs.Ticks.{Tick, closes_wanted, lets_go, goes_on, tick_is, tick_lets_go, tick-goes-on, step-either}
use Rattle.connection.proofs.Keeps.{moves-online}
use Rattle.send_waiting.specs.Waiting.{take_of}
use Rattle.send_waiting.proofs.Taken.{after-either, take-either}
use Rattle.theorem_alive.specs.Alive.{Watched, LetGo}

-- what ends an alive timer, by its parts
ending : (g : Config) (c : Connection) → c.watch.alive ≡ 1 → c.watch.remote_set ≡ false → g.tcp ≡ false → expires g c ≡ true
ending g c = plain c.watch.alive c.watch.remote_set g.tcp
  where
    plain : (a : ℕ) (m t : Bool) → a ≡ 1 → m ≡ false → t ≡ false → (eqb a 1 && not m && not t) ≡ true
    plain a m t e f h = rw (e, f, h)

pub ended_by : (g : Config) (c : Connection) → expires g c ≡ true → (c.watch.alive ≡ 1) × (c.watch.remote_set ≡ false) × (g.tcp ≡ false)
ended_by g c e =
    let t = and3 (eqb c.watch.alive 1) (not c.watch.remote_set) (not g.tcp) e in
    (eqb-true _ _ t.0, not-true _ t.1, not-true _ t.2)

-- WITH THE MARK a record is not let go: the tick is done in full
pub marked-stays : (g : Config) (c : Connection) → c.watch.remote_set ≡ true → expires g c ≡ false
marked-stays g c m = go (expires g c) refl
  where
    go : (b : Bool) → expires g c ≡ b → b ≡ false
    go false e = refl
    go true e = absurd (false≢true (sym (ended_by g c e).1 ∙ m))

pub marked-tick : (g : Config) (c : Connection) → c.watch.remote_set ≡ true → c.close_wanted ≡ false → tick_of g c ≡ onward g c
marked-tick g c m k = sym (tick-goes-on g c k (marked-stays g c m))

-- a datagram or an accept leaves the mark
pub met-mark : (g : Config) (source : Remote) (c : Connection) → (met_of g source c).watch.remote_set ≡ c.watch.remote_set
met-mark g source c = refl

module _ (g : Config) (udp : g.tcp ≡ false) (r : Remote) (b : Bool) (n : ℕ) where
  -- an event of its own that is allowed, but a close
  after-watched : (c : Connection) → Sound g c → Watched r b n c → (e : Change) → (e ≡ Close → ⊥) → allowed e g c ≡ true → Watched r b n (record_after e g c)
  after-watched c s w Open calm a = record { online = w.online; stays = w.stays; peer = w.peer; alive = w.alive; marked = w.marked }
  after-watched c s w Close calm a = absurd (calm refl)
  after-watched c s w Connected calm a = record { online = refl; stays = w.stays; peer = w.peer; alive = w.alive; marked = w.marked }
  after-watched c s w Lost calm a = absurd (false≢true (sym udp ∙ and_left g.tcp (is_online c.mode) a))
  after-watched c s w (SetRemote x) calm a = absurd (false≢true (ap not (sym w.online) ∙ a))
  after-watched c s w (Switch i on) calm a = record { online = w.online; stays = w.stays; peer = w.peer; alive = w.alive; marked = w.marked }
  after-watched c s w Cancel calm a = absurd (false≢true (sym udp ∙ and_right (is_online c.mode) g.tcp (moves-online g c s a)))

  pub step-watched : (c : Connection) → Sound g c → Watched r b n c → (e : Change) → (e ≡ Close → ⊥) → Watched r b n (step_of e g c).connection
  step-watched c s w e calm = step-either e g c (Watched r b n) (λ _. w) (after-watched c s w e calm)

  -- a tick that is not its last, or that finds the mark
  pub tick-watched : (c : Connection) → Watched r b n c → (b ≡ false → 1 < n) → Watched r b (n - 1) (tick_of g c)
  tick-watched c w more = go (tick_of g c) (tick_is g c)
    where
      go : (d : Connection) → Tick g c d → Watched r b (n - 1) d
      go _ (closes_wanted e) = absurd (false≢true (sym w.stays ∙ e))
      go _ (lets_go e x) =
          let t = ended_by g c x in
          let l : 1 < n = more (sym w.marked ∙ t.1) in
          absurd (omega (arith, l, w.alive, t.0))
      go d (goes_on _ e x t) =
          record {
            online = t.up w.online;
            stays = t.wish ∙ w.stays;
            peer = t.remote ∙ w.peer;
            alive = ap (λ (v : Watch). v.alive) t.watch ∙ ap (λ (a : ℕ). a - 1) w.alive;
            marked = ap (λ (v : Watch). v.remote_set) t.watch ∙ w.marked;
          }

  -- its last tick, without the mark
  pub tick-ends : (c : Connection) → Watched r b n c → b ≡ false → n ≡ 1 → LetGo g c (tick_of g c)
  tick-ends c w m one = go (tick_of g c) (sym (tick_lets_go g c w.stays (ending g c (w.alive ∙ one) (w.marked ∙ m) udp)))
    where
      go : (d : Connection) → d ≡ let_go_of g c → LetGo g c d
      go d is =
          record {
            mode = ap (λ (x : Connection). is_reconnect x.mode) is;
            remote = ap (λ (x : Connection). x.remote) is;
            used = ap (λ (x : Connection). x.used) is;
            timer = ap (λ (x : Connection). x.timer) is;
            due = ap (λ (x : Connection). x.due) is;
            watch = ap (λ (x : Connection). x.watch) is;
            switches = ap (λ (x : Connection). x.switches) is;
            stays = ap (λ (x : Connection). x.close_wanted) is;
          }

-- all but the send bytes, timer and due mark as they were
pub besides_watched : (r : Remote) (b : Bool) (n : ℕ) (c d : Connection) → with_send 0 0 false d ≡ with_send 0 0 false c → Watched r b n c → Watched r b n d
besides_watched r b n c d e w =
    record {
      online = ap (λ (x : Connection). is_online x.mode) e ∙ w.online;
      stays = ap (λ (x : Connection). x.close_wanted) e ∙ w.stays;
      peer = ap (λ (x : Connection). x.remote) e ∙ w.peer;
      alive = ap (λ (x : Connection). x.watch.alive) e ∙ w.alive;
      marked = ap (λ (x : Connection). x.watch.remote_set) e ∙ w.marked;
    }

-- A SOURCE: where it replaces a wildcard, or the timer runs, the timer is at the limit
met-alive : (g : Config) (c : Connection) → (wildcard c.remote || ltb 0 c.watch.alive) ≡ true → alive_after g c ≡ g.alive
unfolding alive_after
met-alive g c e = rw e

pub met-watched : (g : Config) (source : Remote) (b : Bool) (c : Connection) → (wildcard c.remote || ltb 0 c.watch.alive) ≡ true
    → c.close_wanted ≡ false → c.watch.remote_set ≡ b → Watched source b g.alive (met_of g source c)
met-watched g source b c e stays m = record { online = refl; stays = stays; peer = refl; alive = met-alive g c e; marked = m }

pub wild_starts : (c : Connection) → wildcard c.remote ≡ true → (wildcard c.remote || ltb 0 c.watch.alive) ≡ true
wild_starts c e = rw e

pub running-starts : (c : Connection) → 0 < c.watch.alive → (wildcard c.remote || ltb 0 c.watch.alive) ≡ true
running-starts c l = go (wildcard c.remote)
  where
    go : (x : Bool) → (x || ltb 0 c.watch.alive) ≡ true
    go true = refl
    go false = lt-ltb 0 c.watch.alive l

-- A TIMER THAT DOES NOT RUN is left so by every event of its own, by a tick, and by a source that replaces no wildcard
step_none : (g : Config) (c : Connection) → c.watch.alive ≡ 0 → (e : Change) → (record_after e g c).watch.alive ≡ 0
step_none g c z Open = z
step_none g c z Close = z
step_none g c z Connected = z
step_none g c z Lost = refl
step_none g c z (SetRemote r) = z
step_none g c z (Switch n on) = z
step_none g c z Cancel = z

pub event_none : (g : Config) (c : Connection) → c.watch.alive ≡ 0 → (e : Change) → (step_of e g c).connection.watch.alive ≡ 0
event_none g c z e = step-either e g c (λ (d : Connection). d.watch.alive ≡ 0) (λ _. z) (λ _. step_none g c z e)

pub take_none : (g : Config) (room : ℕ) (c : Connection) → c.watch.alive ≡ 0 → (take_of g room c).watch.alive ≡ 0
take_none g room c z =
    take-either g room c (λ (d : Connection). d.watch.alive ≡ 0) (λ _. z)
    (λ _. after-either g (with_send 0 0 false c) (λ (d : Connection). d.watch.alive ≡ 0) z (λ _ _. z) (λ _ _. refl))

pub tick_none : (g : Config) (c : Connection) → c.watch.alive ≡ 0 → (tick_of g c).watch.alive ≡ 0
tick_none g c z = go (tick_of g c) (tick_is g c)
  where
    go : (d : Connection) → Tick g c d → d.watch.alive ≡ 0
    go _ (closes_wanted e) = refl
    go _ (lets_go e x) = refl
    go d (goes_on _ e x t) = ap (λ (v : Watch). v.alive) t.watch ∙ omega (arith, z)

pub met_none : (g : Config) (source : Remote) (c : Connection) → c.watch.alive ≡ 0 → 0 < (met_of g source c).watch.alive → wildcard c.remote ≡ true
unfolding alive_after
met_none g source c z l = go (wildcard c.remote) c.watch.alive z l
  where
    go : (x : Bool) (a : ℕ) → a ≡ 0 → 0 < cond (x || ltb 0 a) g.alive a → x ≡ true
    go true a e h = refl
    go false a e h = absurd (let q : 0 < cond (ltb 0 a) g.alive a = h in let f = rw e at q in omega (arith, f))

-- a timer that runs is on a UDP connection
pub runs_udp : (g : Config) (c : Connection) → Sound g c → 0 < c.watch.alive → g.tcp ≡ false
runs_udp g c s l =
    let ne : eqb c.watch.alive 0 ≡ false = ne_eqb c.watch.alive 0 (λ e. omega (arith, l, e)) in
    let w : (is_online c.mode && not g.tcp && leb c.watch.alive g.alive) ≡ true = rw ne at s.watch.watching in
    not-true g.tcp (and3 (is_online c.mode) (not g.tcp) (leb c.watch.alive g.alive) w).1
