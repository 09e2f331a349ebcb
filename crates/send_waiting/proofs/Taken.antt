-- Each answer of a take, as the code gives it, and what a take makes of a record.
use Rattle.std.proofs.Common.{Ok, Err}
use Prim.Native.Nat.{ℕ, ◌+◌, ◌-◌, ◌*◌, ◌<◌, ◌≤◌}
use mathlib.Core.Path.{◌≡◌, refl, sym, ap, ◌∙◌}
use mathlib.Core.Bool.{Bool, true, false, cond, not, ◌&&◌, ◌||◌, or-true}
use mathlib.Core.List.{List, []}
use native.Mathlib.Omega.{arith}
use native.Mathlib.Nat.{add-sub_cancel_left}
use lib.Dec.{eqb, ltb}
use lib.ListN.{length, take, drop, length-drop, drop_of_length-le}
use lib.Seq.{take_all}
use borrow.Author.Tests.{lt-ltb, le-ltb, eqb-true, eq-eqb, ne_eqb, not-true, not-false}
use Rattle.lists.proofs.Both.{impossible, neither}
use Rattle.connection.specs.declared.Mode.TheVariants.{Reconnect}
use Rattle.connection.specs.declared.Config.{Config}
use Rattle.connection.specs.declared.Connection.{Connection}
use Rattle.connection.specs.Connection.{wildcard, with_mode, reset_of, with_send, become}
use Rattle.wire.specs.Lay.{lay}
use Rattle.send_waiting.specs.declared.NotTaken.TheVariants.{Short}
use Rattle.send_waiting.specs.declared.Drained.{Drained}
use Rattle.send_waiting.specs.Waiting.{waiting_of, taking_of, out_of, after_take, take_of}

-- the waiting bytes as a part
module _ (tx : List ℕ) (k used : ℕ) where
  pub wait_past : length tx < k * 1472 → [] ≡ waiting_of tx k used
  unfolding waiting_of
  wait_past h =
      let l : length tx ≤ k * 1472 = omega arith in
      sym (ap (take used) (drop_of_length-le tx l) ∙ take_all used [] (omega arith))

  pub wait_short : length tx - k * 1472 < used → take (length tx - k * 1472) (drop (k * 1472) tx) ≡ waiting_of tx k used
  unfolding waiting_of
  wait_short h =
      take_all (length tx - k * 1472) (drop (k * 1472) tx) (omega (arith, length-drop (k * 1472) tx))
      ∙ sym (take_all used (drop (k * 1472) tx) (omega (arith, length-drop (k * 1472) tx)))

  pub wait_whole : take (k * 1472 + used - k * 1472) (drop (k * 1472) tx) ≡ waiting_of tx k used
  unfolding waiting_of
  wait_whole = rw (add-sub_cancel_left)

-- what follows a take
module _ (g : Config) (c : Connection) (wild : Bool) (e : wild ≡ wildcard g.remote) where
  abbrev follows : Connection
  follows = cond g.tcp (with_mode c.mode c.open_wanted true c) (become Reconnect (reset_of g c))

  after_is : cond (g.automatic && wild) follows c ≡ after_take g c
  after_is = ap (λ (b : Bool). cond (g.automatic && b) follows c) e

  pub after_none : not (g.automatic && wild) ≡ true → c ≡ after_take g c
  after_none t = sym (ap (λ (b : Bool). cond b follows c) (not-true (g.automatic && wild) t)) ∙ after_is

  leaving : not (g.automatic && wild) ≡ false → follows ≡ after_take g c
  leaving t = sym (ap (λ (b : Bool). cond b follows c) (not-false (g.automatic && wild) t)) ∙ after_is

  pub after-tcp : not (g.automatic && wild) ≡ false → g.tcp ≡ true → with_mode c.mode c.open_wanted true c ≡ after_take g c
  after-tcp t q = sym (ap (λ (b : Bool). cond b (with_mode c.mode c.open_wanted true c) (become Reconnect (reset_of g c))) q) ∙ leaving t

  pub after-udp : not (g.automatic && wild) ≡ false → g.tcp ≡ false → become Reconnect (reset_of g c) ≡ after_take g c
  after-udp t q = sym (ap (λ (b : Bool). cond b (with_mode c.mode c.open_wanted true c) (become Reconnect (reset_of g c))) q) ∙ leaving t

-- the take
module _ (g : Config) (c : Connection) (waiting out : List ℕ) where
  abbrev Answers : Drained → List ℕ → Type 0
  Answers r o = (r ≡ record { answer = taking_of (length out) c; connection = take_of g (length out) c }) × (o ≡ out_of c waiting out)

  pub taking_short : length out < c.used → Answers (record { answer = Err Short; connection = c }) out
  unfolding taking_of take_of out_of
  taking_short h = (rw (lt-ltb _ _ h, or-true (eqb c.used 0)), rw (lt-ltb _ _ h))

  module _ (h : c.used ≤ length out) (o : List ℕ) (e : o ≡ lay out 0 waiting) where
    pub take-nothing : c.used ≡ 0 → Answers (record { answer = Ok (c.used, c.remote); connection = c }) o
    unfolding taking_of take_of out_of
    take-nothing z = (rw (le-ltb _ _ h, eq-eqb _ _ z), rw (le-ltb _ _ h) e)

    pub take-some : (c.used ≡ 0 → ⊥) → (d : Connection) → d ≡ after_take g (with_send 0 0 false c)
        → Answers (record { answer = Ok (c.used, c.remote); connection = d }) o
    unfolding taking_of take_of out_of
    take-some z d p = (
      rw (le-ltb _ _ h, ne_eqb _ _ z) (ap (λ (x : Connection). record { answer = Ok (c.used, c.remote); connection = x }) p),
      rw (le-ltb _ _ h) e,
    )

-- what follows a take, in its three ways
pub after-either : (g : Config) (d : Connection) (P : Connection → Type 0) → P d
    → (g.automatic ≡ true → g.tcp ≡ true → P (with_mode d.mode d.open_wanted true d))
    → (g.automatic ≡ true → g.tcp ≡ false → P (become Reconnect (reset_of g d))) → P (after_take g d)
after-either g d P p q r = go g.automatic refl (wildcard g.remote) g.tcp refl
  where
    go : (a : Bool) → g.automatic ≡ a → (w t : Bool) → g.tcp ≡ t
        → P (cond (a && w) (cond t (with_mode d.mode d.open_wanted true d) (become Reconnect (reset_of g d))) d)
    go false e w t f = p
    go true e false t f = p
    go true e true true f = q e f
    go true e true false f = r e f

-- THE RECORD after a take: as it was (nothing waits, or it is refused), or emptied
module _ (g : Config) (room : ℕ) (c : Connection) where
  pub take-either : (P : Connection → Type 0) → ((eqb c.used 0 || ltb room c.used) ≡ true → P c)
      → ((eqb c.used 0 || ltb room c.used) ≡ false → P (after_take g (with_send 0 0 false c)))
      → P (take_of g room c)
  unfolding take_of
  take-either P p q = go (eqb c.used 0 || ltb room c.used) refl
    where
      go : (b : Bool) → (eqb c.used 0 || ltb room c.used) ≡ b → P (cond b c (after_take g (with_send 0 0 false c)))
      go true e = p e
      go false e = q e

  pub take_part : (take_of g room c).part ≡ c.part
  take_part =
      take-either (λ (d : Connection). d.part ≡ c.part) (λ _. refl)
      (λ _. after-either g (with_send 0 0 false c) (λ (d : Connection). d.part ≡ c.part) refl (λ _ _. refl) (λ _ _. refl))

  -- a TCP connection stays in its mode
  pub take-mode : g.tcp ≡ true → (take_of g room c).mode ≡ c.mode
  take-mode tcp =
      take-either (λ (d : Connection). d.mode ≡ c.mode) (λ _. refl)
      (λ _. after-either g (with_send 0 0 false c) (λ (d : Connection). d.mode ≡ c.mode) refl (λ _ _. refl) (λ _ t. impossible (sym t ∙ tcp)))

  -- what waits is taken unless it is refused
  pub take-used : (take_of g room c).used ≡ cond (not (ltb room c.used)) 0 c.used
  take-used =
      take-either (λ (d : Connection). d.used ≡ cond (not (ltb room c.used)) 0 c.used) (kept (eqb c.used 0) (ltb room c.used) refl)
      (λ e. after-either g (with_send 0 0 false c)
      (λ (d : Connection). d.used ≡ cond (not (ltb room c.used)) 0 c.used) (taken e) (λ _ _. taken e) (λ _ _. taken e))
    where
      kept : (z r : Bool) → eqb c.used 0 ≡ z → (z || r) ≡ true → c.used ≡ cond (not r) 0 c.used
      kept z true e h = refl
      kept true false e h = eqb-true _ _ e
      kept false false e h = impossible h

      taken : (eqb c.used 0 || ltb room c.used) ≡ false → 0 ≡ cond (not (ltb room c.used)) 0 c.used
      taken e = rw (neither (eqb c.used 0) (ltb room c.used) e).1
