-- Of a record that has received nothing and wants nothing the rules ask little: its send bytes, an online remote without wildcard, and the alive timer.
use Prim.Native.Nat.{ℕ, ◌<◌}
use mathlib.Core.Path.{◌≡◌, refl, sym, ap, ◌∙◌}
use mathlib.Core.Bool.{Bool, true, false, not, ◌&&◌, ◌||◌}
use mathlib.Core.List.{List}
use lib.Dec.{eqb, leb, ltb}
use native.Mathlib.Omega.{arith}
use borrow.Author.Tests.{not-true, le-leb, ne_eqb, lt-ltb}
use Rattle.receive_part.specs.declared.Part.{Part}
use Rattle.receive_part.specs.Part.{empty_part, ready_part}
use Rattle.connection.specs.declared.Config.{Config}
use Rattle.connection.specs.declared.Connection.{Connection}
use Rattle.connection.specs.Connection.{is_offline, is_online, with_part}
use Rattle.connection.specs.Sound.{sends, timed, never_both, online_remote, open_rule, close_rule, watched, sound_of}
use Rattle.connection.proofs.Fails.{always}
use Rattle.connection.proofs.Rules.{empty_is}
use Rattle.lists.proofs.Both.{impossible, and_left, and_right}
use Rattle.gate.specs.Sound.{routed}
use Rattle.gate.specs.Inner.{idle, idle_sound, quiet_sound, wished}

-- what a record wants, by the tests of it: nothing; an open; a close
module _ (g : Config) (c : Connection) where
  none_wished : c.open_wanted ≡ false → c.close_wanted ≡ false → wished g c ≡ true
  none_wished o k = rw (o, k)

  pub wished_none : not c.open_wanted && not c.close_wanted ≡ true → true ≡ wished g c
  wished_none e =
      sym (none_wished (not-true _ (and_left (not c.open_wanted) _ e)) (not-true _ (and_right (not c.open_wanted) _ e)))

  pub wished_open : c.open_wanted ≡ true → (not g.automatic && is_offline c.mode && not c.close_wanted) ≡ wished g c
  wished_open o = rw o (go (not g.automatic) (is_offline c.mode) c.close_wanted _)
    where
      go : (a f k x : Bool) → (a && f && not k) ≡ ((a && f && not k) && (not k || a || x))
      go true true true x = refl
      go true true false x = refl
      go true false k x = refl
      go false f k x = refl

  pub wished_close : not c.open_wanted && not c.close_wanted ≡ false → c.open_wanted ≡ false
      → (not g.automatic || (g.tcp && not (is_offline c.mode))) ≡ wished g c
  wished_close e o =
      let k : c.close_wanted ≡ true = go c.close_wanted (rw o at e) in
      rw (o, k)
    where
      go : (k : Bool) → not k ≡ false → k ≡ true
      go true p = refl
      go false p = impossible (sym p)

module _ (g : Config) (routes : List ℕ) (n : ℕ) (c : Connection) where
  last : (x o k w : Bool) → (x && o && k && w && true) ≡ ((x && w) && (o && k))
  last true true true true = refl
  last true true true false = refl
  last true true false true = refl
  last true true false false = refl
  last true false k true = refl
  last true false k false = refl
  last false o k w = refl

  fewer : (u s t b r o k w : Bool) → (u && true && true && s && t && b && r && o && k && w && true) ≡ ((u && s && t && b && r && w) && (o && k))
  fewer true s t b r o k w = last (s && t && b && r) o k w
  fewer false s t b r o k w = refl

  nothing-received : (sound_of g (with_part ready_part c) && routed routes n ready_part)
      ≡ (quiet_sound g (with_part ready_part c) && wished g (with_part ready_part c))
  unfolding sound_of
  nothing-received =
      fewer (leb c.used g.size) (sends c) (timed c) (never_both c) (online_remote c) (open_rule g c) (close_rule g c) (watched g c)

  ready-plain : (part : Part) → part ≡ ready_part
      → (sound_of g (with_part part c) && routed routes n part) ≡ (quiet_sound g (with_part part c) && wished g (with_part part c))
  ready-plain part p = rw p nothing-received

  -- of one that has received nothing
  empty_sound : empty_part c.part ≡ true → (sound_of g c && routed routes n c.part) ≡ (quiet_sound g c && wished g c)
  empty_sound p = ready-plain c.part (empty_is c.part p)

  -- by two tests
  pub empty_not : empty_part c.part ≡ true → quiet_sound g c ≡ false → false ≡ (sound_of g c && routed routes n c.part)
  empty_not p q = sym (empty_sound p ∙ ap (λ (b : Bool). b && wished g c) q)

  pub empty_when : empty_part c.part ≡ true → quiet_sound g c ≡ true → (w : Bool) → w ≡ wished g c → w ≡ (sound_of g c && routed routes n c.part)
  empty_when p q w h = h ∙ sym (empty_sound p ∙ ap (λ (b : Bool). b && wished g c) q)

  -- and wants nothing
  pub idle-sound : idle c ≡ true → (sound_of g c && routed routes n c.part) ≡ quiet_sound g c
  idle-sound p =
      let a = empty_part c.part in
      let b = a && not c.open_wanted in
      let pb : b ≡ true = and_left b _ p in
      empty_sound (and_left a _ pb)
      ∙ ap (λ (w : Bool). quiet_sound g c && w) (none_wished g c (not-true _ (and_right a _ pb)) (not-true _ (and_right b _ p)))
      ∙ always (quiet_sound g c)

-- without send bytes, and with some
module _ (size used timer : ℕ) (due online reached : Bool) where
  none : used ≡ 0
      → (eqb timer 0 && not due && reached)
      ≡ (leb used size && (eqb used 0 || online) && ((eqb timer 0 && not due) || ltb 0 used) && (eqb timer 0 || not due) && reached)
  none e = rw (e, le-leb 0 size (omega arith)) (go (eqb timer 0) (not due))
    where
      go : (t d : Bool) → (t && d && reached) ≡ (true && (true || online) && ((t && d) || false) && (t || d) && reached)
      go true true = refl
      go true false = refl
      go false d = refl

  some : (used ≡ 0 → ⊥)
      → (leb used size && online && (eqb timer 0 || not due) && reached)
      ≡ (leb used size && (eqb used 0 || online) && ((eqb timer 0 && not due) || ltb 0 used) && (eqb timer 0 || not due) && reached)
  some n =
      let h : 0 < used = omega arith in
      rw (ne_eqb used 0 n, lt-ltb 0 used h) (go (leb used size) online (eqb timer 0 && not due) (eqb timer 0 || not due))
    where
      go : (u o x y : Bool) → (u && o && y && reached) ≡ (u && (false || o) && (x || true) && y && reached)
      go true true true y = refl
      go true true false y = refl
      go true false x y = refl
      go false o x y = refl

pub idle-without : (size : ℕ) (c : Connection) (reached : Bool) → reached ≡ online_remote c → c.used ≡ 0
    → (eqb c.timer 0 && not c.due && reached) ≡ idle_sound size c
idle-without size c reached e z =
    ap (λ (r : Bool). eqb c.timer 0 && not c.due && r) e ∙ none size c.used c.timer c.due (is_online c.mode) (online_remote c) z

pub idle-with : (size k : ℕ) (c : Connection) (reached online : Bool) → reached ≡ online_remote c → online ≡ is_online c.mode → k ≡ size → (c.used ≡ 0 → ⊥)
    → (leb c.used k && online && (eqb c.timer 0 || not c.due) && reached) ≡ idle_sound size c
idle-with size k c reached online er eo ek n =
    ap (λ (m : ℕ). leb c.used m && online && (eqb c.timer 0 || not c.due) && reached) ek
    ∙ ap (λ (o : Bool). leb c.used size && o && (eqb c.timer 0 || not c.due) && reached) eo
    ∙ ap (λ (r : Bool). leb c.used size && is_online c.mode && (eqb c.timer 0 || not c.due) && r) er
    ∙ some size c.used c.timer c.due (is_online c.mode) (online_remote c) n

-- an online remote with a wildcard, and one without
pub idle_unreached : (size : ℕ) (c : Connection) → online_remote c ≡ false → false ≡ idle_sound size c
idle_unreached size c e = rw e (go (leb c.used size && sends c && timed c && never_both c))
  where
    go : (b : Bool) → false ≡ (b && false)
    go true = refl
    go false = refl
