-- A CONNECTION EVENT IS ALLOWED exactly when the rule says so.
use mathlib.Core.Path.{◌≡◌, refl, sym, ap, ◌∙◌}
use mathlib.Core.Logic.{◌↔◌}
use mathlib.Core.Bool.{Bool, true, false, not, ◌&&◌, ◌||◌, false≢true}
use lib.Dec.{eqb}
use borrow.Author.Tests.{eqb-false, ne_eqb}
use Rattle.lists.proofs.Both.{impossible, and_left, and_right, neither}
use Rattle.connection.specs.declared.Mode.{Mode}
use Rattle.connection.specs.declared.Mode.TheVariants.{Offline, Reconnect, Online}
use Rattle.connection.specs.declared.Config.{Config}
use Rattle.connection.specs.declared.Connection.{Connection}
use Rattle.connection.specs.declared.Event.{Event}
use Rattle.connection.specs.declared.Event.TheVariants.{Open, Close, Connected, Lost, SetRemote, Switch, Cancel}
use Rattle.connection.specs.Connection.{is_offline, is_reconnect, is_online, wildcard}
use Rattle.connection.specs.Event.{allowed}
use Rattle.theorem_records.specs.Allowed.{MayHappen, may_open, may_close_opening, may_close_up, may_connect, may_lose, may_set, may_switch, may_cancel}

-- modes by their tests
is-offline : (m : Mode) → is_offline m ≡ true → m ≡ Offline
is-offline Offline e = refl
is-offline Reconnect e = impossible e
is-offline Online e = impossible e

is-reconnect : (m : Mode) → is_reconnect m ≡ true → m ≡ Reconnect
is-reconnect Offline e = impossible e
is-reconnect Reconnect e = refl
is-reconnect Online e = impossible e

is-online : (m : Mode) → is_online m ≡ true → m ≡ Online
is-online Offline e = impossible e
is-online Reconnect e = impossible e
is-online Online e = refl

off : (b : Bool) → not b ≡ true → b ≡ false
off true e = impossible e
off false e = refl

not_so : (b : Bool) → (b ≡ true → ⊥) → not b ≡ true
not_so true h = absurd (h refl)
not_so false h = refl

module _ (g : Config) (c : Connection) where
  told : (e : Event) → allowed e g c ≡ true → MayHappen g c e
  told Open e =
      let a = not g.automatic in
      let f = and_left (a && is_offline c.mode) (not c.close_wanted) e in
      may_open (off g.automatic (and_left a (is_offline c.mode) f)) (is-offline c.mode (and_right a (is_offline c.mode) f))
      (off c.close_wanted (and_right (a && is_offline c.mode) (not c.close_wanted) e))
  told Close e = go c.open_wanted refl (and_right (not g.automatic) (c.open_wanted || not (is_offline c.mode)) e)
    where
      plain : g.automatic ≡ false
      plain = off g.automatic (and_left (not g.automatic) (c.open_wanted || not (is_offline c.mode)) e)

      go : (b : Bool) → c.open_wanted ≡ b → (b || not (is_offline c.mode)) ≡ true → MayHappen g c Close
      go true o f = may_close_opening plain o
      go false o f = may_close_up plain (λ q. false≢true (sym (off (is_offline c.mode) f) ∙ ap is_offline q))
  told Connected e =
      let a = g.tcp && is_reconnect c.mode in
      let f = and_left (a && not c.close_wanted) (not (wildcard c.remote)) e in
      let w = neither (eqb c.remote.address 0) (eqb c.remote.port 0)
      (off (wildcard c.remote) (and_right (a && not c.close_wanted) (not (wildcard c.remote)) e)) in
      let h = and_left a (not c.close_wanted) f in
      may_connect (and_left g.tcp (is_reconnect c.mode) h) (is-reconnect c.mode (and_right g.tcp (is_reconnect c.mode) h))
      (off c.close_wanted (and_right a (not c.close_wanted) f)) (eqb-false c.remote.address 0 w.0) (eqb-false c.remote.port 0 w.1)
  told Lost e = may_lose (and_left g.tcp (is_online c.mode) e) (is-online c.mode (and_right g.tcp (is_online c.mode) e))
  told (SetRemote r) e = may_set r (λ q. false≢true (sym (off (is_online c.mode) e) ∙ ap is_online q))
  told (Switch n position) e = may_switch n position
  told Cancel e = may_cancel e

  given : (e : Event) → MayHappen g c e → allowed e g c ≡ true
  given _ (may_open a m s) = rw (a, m, s)
  given _ (may_close_opening a o) = rw (a, o)
  given _ (may_close_up a m) = rw a (go c.open_wanted)
    where
      go : (b : Bool) → (b || not (is_offline c.mode)) ≡ true
      go true = refl
      go false = not_so (is_offline c.mode) (λ e. m (is-offline c.mode e))
  given _ (may_connect t m s a p) = rw (t, m, s, ne_eqb c.remote.address 0 a, ne_eqb c.remote.port 0 p)
  given _ (may_lose t m) = rw (t, m)
  given _ (may_set r m) = not_so (is_online c.mode) (λ e. m (is-online c.mode e))
  given _ (may_switch n position) = refl
  given _ (may_cancel t) = t

  -- EXACTLY WHEN
  pub allowed_exactly : (e : Event) → (allowed e g c ≡ true) ↔ MayHappen g c e
  allowed_exactly e = (told e, given e)
