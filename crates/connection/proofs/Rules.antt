-- The rules of a sound record, from the test and back; the zero record.
use lib.Dec.{eqb}
use mathlib.Core.Path.{◌≡◌, refl, sym, ap, ◌∙◌}
use mathlib.Core.Bool.{Bool, true, false, ◌&&◌, ◌||◌}
use borrow.Author.Tests.{eqb-true, not-true}
use Rattle.receive_part.specs.declared.Part.{Part}
use Rattle.receive_part.specs.declared.Part.TheVariants.{Header, Payload, Skip, Transfer}
use Rattle.receive_part.specs.Part.{empty_part, ready_part}
use Rattle.lists.proofs.Both.{impossible, and_left, and_right, neither}
use Rattle.connection.specs.declared.Mode.{Mode}
use Rattle.connection.specs.declared.Mode.TheVariants.{Offline, Reconnect, Online}
use Rattle.connection.specs.declared.Connection.{Connection}
use Rattle.connection.specs.declared.Config.{Config}
use Rattle.connection.specs.Connection.{is_offline, wild_fields, zero_record}
use Rattle.connection.specs.Sound.{sound_of, Sound, zero_of}

-- the last of some tests that hold together, and those before it
both : {a b : Bool} → (a && b) ≡ true → (a ≡ true) × (b ≡ true)
both {a} {b} p = (and_left a b p, and_right a b p)

module _ (g : Config) (c : Connection) where
  pub sound_from : sound_of g c ≡ true → Sound g c
  unfolding sound_of
  sound_from all =
      let (before, watching) = both all in
      let (before, closing) = both before in
      let (before, opening) = both before in
      let (before, reached) = both before in
      let (before, once) = both before in
      let (before, timing) = both before in
      let (before, sending) = both before in
      let (before, receiving) = both before in
      let (fits, shape) = both before in
      record {
        send = record { fits = fits; sending = sending; timing = timing; once = once };
        wishes = record { reached = reached; opening = opening; closing = closing };
        receive = record { shape = shape; receiving = receiving };
        watch = record { watching = watching };
      }

  pub sound-to : Sound g c → sound_of g c ≡ true
  unfolding sound_of
  sound-to s =
      rw (
        s.send.fits,
        s.receive.shape,
        s.receive.receiving,
        s.send.sending,
        s.send.timing,
        s.send.once,
        s.wishes.reached,
        s.wishes.opening,
        s.wishes.closing,
        s.watch.watching,
      )

offline_is : (m : Mode) → is_offline m ≡ true → m ≡ Offline
offline_is Offline p = refl
offline_is Reconnect p = impossible p
offline_is Online p = impossible p

-- a receive part that is empty is the ready one
pub empty_is : (p : Part) → empty_part p ≡ true → p ≡ ready_part
empty_is (Header h v) e =
    let a : h ≡ 0 = eqb-true _ _ (and_left (eqb h 0) (eqb v 0) e) in
    let b : v ≡ 0 = eqb-true _ _ (and_right (eqb h 0) (eqb v 0) e) in
    rw (a, b)
empty_is (Payload r l h) e = impossible e
empty_is (Skip n) e = impossible e
empty_is (Transfer r n) e = impossible e

-- a record that tests as all zero is the zero record
pub zero_is : (c : Connection) → zero_of c ≡ true → c ≡ zero_record
unfolding zero_of
zero_is c all =
    let (before, watch) = both all in
    let (before, due) = both before in
    let (before, timer) = both before in
    let (before, used) = both before in
    let (before, part) = both before in
    let (before, switches) = both before in
    let (before, remote) = both before in
    let (before, close) = both before in
    let (mode, wish) = both before in
    let (address, port) = both remote in
    let (alive, mark) = both watch in
    rw (
      offline_is c.mode mode,
      not-true c.open_wanted wish,
      not-true c.close_wanted close,
      eqb-true c.remote.address 0 address,
      eqb-true c.remote.port 0 port,
      eqb-true c.switches 0 switches,
      empty_is c.part part,
      eqb-true c.used 0 used,
      eqb-true c.timer 0 timer,
      not-true c.due due,
      eqb-true c.watch.alive 0 alive,
      not-true c.watch.remote_set mark,
    )

-- and the zero record does
pub zero-zero : zero_of zero_record ≡ true
unfolding zero_of
zero-zero = refl

-- a record with what the zero record has not is not all zero; and one that has none of four such things is, where four numbers are 0
pub zero_not : (c : Connection) (has : Connection → Bool) → has zero_record ≡ false → has c ≡ true → false ≡ zero_of c
zero_not c has none some = go (zero_of c) refl
  where
    go : (b : Bool) → zero_of c ≡ b → false ≡ zero_of c
    go false e = sym e
    go true e = impossible (sym none ∙ sym (ap has (zero_is c e)) ∙ some)

pub zero_rest : (c : Connection)
    → empty_part c.part ≡ true
    → (c.open_wanted || c.close_wanted || c.due || c.watch.remote_set) ≡ false
    → is_offline c.mode ≡ true
    → ((wild_fields c.remote).address && (wild_fields c.remote).port) ≡ true
    → (eqb c.switches 0 && eqb c.used 0 && eqb c.timer 0 && eqb c.watch.alive 0) ≡ zero_of c
unfolding zero_of
zero_rest c empty marks offline wild =
    let (before, set) = neither (c.open_wanted || c.close_wanted || c.due) c.watch.remote_set marks in
    let (before, due) = neither (c.open_wanted || c.close_wanted) c.due before in
    let (wish, close) = neither c.open_wanted c.close_wanted before in
    rw (empty, set, due, wish, close, offline, wild) (go (eqb c.switches 0) (eqb c.used 0) (eqb c.timer 0) (eqb c.watch.alive 0))
  where
    go : (s u t a : Bool) → (s && u && t && a) ≡ (true && true && true && true && s && true && u && t && true && (a && true))
    go false u t a = refl
    go true false t a = refl
    go true true false a = refl
    go true true true false = refl
    go true true true true = refl
