-- The two ways of an event, and of a tick.
use Rattle.std.proofs.Common.{Ok}
use Prim.Native.Nat.{ℕ, ◌-◌}
use native.Mathlib.Omega.{arith}
use mathlib.Core.Path.{◌≡◌, refl, sym, ap, ◌∙◌}
use mathlib.Core.Bool.{Bool, true, false, cond, not, ◌&&◌, ◌||◌}
use lib.Dec.{eqb}
use borrow.Author.Tests.{not-true}
use Rattle.lists.proofs.Both.{impossible, and_right}
use Rattle.receive_part.specs.Part.{ready_part}
use Rattle.connection.specs.declared.Mode.{Mode}
use Rattle.connection.specs.declared.Mode.TheVariants.{Offline, Reconnect, Online}
use Rattle.connection.specs.declared.Connection.{Connection}
use Rattle.connection.specs.declared.Config.{Config}
use Rattle.connection.specs.declared.Refusal.TheVariants.{Missing, Denied}
use Rattle.connection.specs.declared.Event.{Event}
use Rattle.connection.specs.Connection.{is_reconnect, is_online, wildcard, alive_at, with_watch, closed_of, started_of}
use Rattle.connection.specs.Connection.{reach_of, run_of, expires, let_go_of, sunk_of, onward, tick_of}
use Rattle.connection.specs.Event.{known, allowed, record_after, refused_by, step_of}

-- AN EVENT leaves the record, or, where it is known and allowed, makes of it what its own sentence says
pub step-either : (e : Event) (g : Config) (c : Connection) (P : Connection → Type 0)
    → ((known e && allowed e g c) ≡ false → P c) → (allowed e g c ≡ true → P (record_after e g c)) → P (step_of e g c).connection
unfolding step_of
step-either e g c P p q = go (known e) (allowed e g c) refl p
  where
    go : (k a : Bool) → allowed e g c ≡ a → ((k && a) ≡ false → P c)
        → P (cond (not k) (refused_by Missing c) (cond (not a) (refused_by Denied c) (record { answer = Ok tt; connection = record_after e g c }))).connection
    go false a x p = p refl
    go true false x p = p refl
    go true true x p = q x

module _ (g : Config) (c : Connection) where
  pub tick-closes : c.close_wanted ≡ true → closed_of g c ≡ tick_of g c
  unfolding tick_of
  tick-closes h = sym (ap (λ (b : Bool). cond b (closed_of g c) (cond (expires g c) (let_go_of g c) (onward g c))) h)

  tick_open : c.close_wanted ≡ false → cond (expires g c) (let_go_of g c) (onward g c) ≡ tick_of g c
  unfolding tick_of
  tick_open h = sym (ap (λ (b : Bool). cond b (closed_of g c) (cond (expires g c) (let_go_of g c) (onward g c))) h)

  pub tick_lets_go : c.close_wanted ≡ false → expires g c ≡ true → let_go_of g c ≡ tick_of g c
  tick_lets_go h e = sym (ap (λ (b : Bool). cond b (let_go_of g c) (onward g c)) e) ∙ tick_open h

  pub tick-goes-on : c.close_wanted ≡ false → expires g c ≡ false → onward g c ≡ tick_of g c
  tick-goes-on h e = sym (ap (λ (b : Bool). cond b (let_go_of g c) (onward g c)) e) ∙ tick_open h

-- an alive timer that does not run stays so
pub sunk_none : (c : Connection) → c.watch.alive ≡ 0 → c ≡ sunk_of c
sunk_none c e =
    let same : c.watch.alive ≡ c.watch.alive - 1 = omega arith in
    ap (λ (a : ℕ). with_watch (alive_at a c.watch) c) same

-- A TICK THAT NEITHER CLOSES NOR LETS GO leaves part, send bytes, switches, remote, watch and the wish to close as they were once the alive
-- timer has fallen, a TCP connection online or not, and each that is online online
pub record GoesOn (g : Config) (c d : Connection) : Type 0 where
  pub part : d.part ≡ c.part
  pub used : d.used ≡ c.used
  pub switches : d.switches ≡ c.switches
  pub remote : d.remote ≡ c.remote
  pub watch : d.watch ≡ c.watch
  pub wish : d.close_wanted ≡ c.close_wanted
  pub online : g.tcp ≡ true → is_online d.mode ≡ is_online c.mode
  pub up : is_online c.mode ≡ true → is_online d.mode ≡ true

-- its three steps
pub started : (g : Config) (c : Connection) → GoesOn g c (started_of g c)
unfolding started_of
started g c = go c.mode refl (c.open_wanted || g.automatic) refl
  where
    go : (m : Mode) → c.mode ≡ m → (b : Bool) → (c.open_wanted || g.automatic) ≡ b → GoesOn g c (started_of g c)
    go Offline p true q = rw (p, q)
        (record { part = refl; used = refl; switches = refl; remote = refl; watch = refl; wish = refl; online = λ _. refl; up = λ h. h })
    go Offline p false q = rw (p, q)
        (record { part = refl; used = refl; switches = refl; remote = refl; watch = refl; wish = refl; online = λ _. refl; up = λ h. h })
    go Reconnect p b q = rw p (record { part = refl; used = refl; switches = refl; remote = refl; watch = refl; wish = refl; online = λ _. refl; up = λ h. h })
    go Online p b q = rw p (record { part = refl; used = refl; switches = refl; remote = refl; watch = refl; wish = refl; online = λ _. refl; up = λ h. h })

reached : (g : Config) (c : Connection) → GoesOn g c (reach_of g c)
unfolding reach_of
reached g c = go g.tcp refl (is_reconnect c.mode && not g.tcp && not (wildcard c.remote)) refl
  where
    never : (a b : Bool) → (a && not true && b) ≡ false
    never true b = refl
    never false b = refl

    go : (t : Bool) → g.tcp ≡ t → (b : Bool) → (is_reconnect c.mode && not g.tcp && not (wildcard c.remote)) ≡ b → GoesOn g c (reach_of g c)
    go t e false q = rw q (record { part = refl; used = refl; switches = refl; remote = refl; watch = refl; wish = refl; online = λ _. refl; up = λ h. h })
    go false e true q = rw q
        (record { part = refl; used = refl; switches = refl; remote = refl; watch = refl; wish = refl; online = λ h. impossible (sym e ∙ h); up = λ _. refl })
    go true e true q =
        impossible (sym (never (is_reconnect c.mode) (not (wildcard c.remote)))
        ∙ ap (λ (t : Bool). is_reconnect c.mode && not t && not (wildcard c.remote)) (sym e) ∙ q)

run : (g : Config) (c : Connection) → GoesOn g c (run_of c)
unfolding run_of
run g c = go (eqb c.timer 0) refl
  where
    go : (b : Bool) → eqb c.timer 0 ≡ b → GoesOn g c (run_of c)
    go true q = rw q (record { part = refl; used = refl; switches = refl; remote = refl; watch = refl; wish = refl; online = λ _. refl; up = λ h. h })
    go false q = rw q (record { part = refl; used = refl; switches = refl; remote = refl; watch = refl; wish = refl; online = λ _. refl; up = λ h. h })

one_more : (g : Config) (c d e : Connection) → GoesOn g d e → GoesOn g c d → GoesOn g c e
one_more g c d e t u =
    record {
      part = t.part ∙ u.part;
      used = t.used ∙ u.used;
      switches = t.switches ∙ u.switches;
      remote = t.remote ∙ u.remote;
      watch = t.watch ∙ u.watch;
      wish = t.wish ∙ u.wish;
      online = λ p. t.online p ∙ u.online p;
      up = λ h. t.up (u.up h);
    }

-- ONLY A UDP CONNECTION is let go by its timer
pub let_go_udp : (g : Config) (c : Connection) → expires g c ≡ true → g.tcp ≡ false
let_go_udp g c e = not-true g.tcp (and_right (eqb c.watch.alive 1 && not c.watch.remote_set) (not g.tcp) e)

-- and one that closes: the fresh record except switches; and one that lets go
pub data Tick (g : Config) (c : Connection) : Connection → Type 0 where
  closes_wanted : c.close_wanted ≡ true → Tick g c (closed_of g c)
  lets_go : c.close_wanted ≡ false → expires g c ≡ true → Tick g c (let_go_of g c)
  goes_on : (d : Connection) → c.close_wanted ≡ false → expires g c ≡ false → GoesOn g (sunk_of c) d → Tick g c d

pub tick_is : (g : Config) (c : Connection) → Tick g c (tick_of g c)
unfolding tick_of
tick_is g c = go c.close_wanted (expires g c) refl refl
  where
    all : GoesOn g (sunk_of c) (onward g c)
    all =
        let d = started_of g (sunk_of c) in
        one_more g (sunk_of c) (reach_of g d) _ (run g (reach_of g d)) (one_more g (sunk_of c) d _ (reached g d) (started g (sunk_of c)))

    go : (b x : Bool) → c.close_wanted ≡ b → expires g c ≡ x → Tick g c (cond b (closed_of g c) (cond x (let_go_of g c) (onward g c)))
    go true x e f = closes_wanted e
    go false true e f = lets_go e f
    go false false e f = goes_on (onward g c) e f all

-- A TICK LEAVES of the receive part nothing where it closes, and all of it otherwise; and no wish to close
pub tick-part : (g : Config) (c : Connection) → (tick_of g c).part ≡ cond c.close_wanted ready_part c.part
tick-part g c = go (tick_of g c) (tick_is g c)
  where
    go : (d : Connection) → Tick g c d → d.part ≡ cond c.close_wanted ready_part c.part
    go _ (closes_wanted k) = rw k
    go _ (lets_go k x) = rw k
    go d (goes_on _ k x t) = rw k t.part

pub tick_wish : (g : Config) (c : Connection) → (tick_of g c).close_wanted ≡ false
tick_wish g c = go (tick_of g c) (tick_is g c)
  where
    go : (d : Connection) → Tick g c d → d.close_wanted ≡ false
    go _ (closes_wanted k) = refl
    go _ (lets_go k x) = k
    go d (goes_on _ k x t) = t.wish ∙ k
