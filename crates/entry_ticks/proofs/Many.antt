-- MANY TICKS AT ONCE. Of a record that the next tick does not turn, n ticks let the timers run (`many_later`), or let it go at the end of its
-- alive timer (`many_leaves`), and then reach it in the next tick or never (`gone_many`): `settled_of` is n ticks (`settled_many`). Of any other
-- record single ticks come first, of which two are enough (`two_settle`). Many ticks of the whole module are as many of each record (`ticks-each`).
use Prim.Native.Nat.{ℕ, zero, suc, ◌+◌, ◌-◌, ◌<◌, ◌≤◌}
use mathlib.Core.Path.{◌≡◌, refl, sym, ap, ap₂, ◌∙◌, subst}
use mathlib.Core.Bool.{Bool, true, false, cond, not, ◌&&◌, ◌||◌}
use mathlib.Core.List.{List, [], ◌∷◌}
use lib.Dec.{eqb, ltb, leb}
use native.Mathlib.Decide.{dec_le}
use native.Mathlib.Omega.{arith}
use borrow.Author.Tests.{eqb-true, eq-eqb, lt-ltb, ltb-true, le-leb, leb-true, leb-false, eqb-false, not-false}
use Rattle.connection.specs.declared.Config.{Config}
use Rattle.connection.specs.declared.Connection.{Connection}
use Rattle.connection.specs.declared.Mode.{Mode}
use Rattle.connection.specs.declared.Mode.TheVariants.{Offline, Reconnect, Online}
use Rattle.connection.specs.Connection.{is_offline, is_reconnect, become, alive_at, with_send, with_watch}
use Rattle.connection.specs.Connection.{started_of, reach_of, run_of, expires, closed_of, let_go_of, sunk_of, tick_of}
use Rattle.connection.proofs.Ticks.{tick-closes, tick-goes-on, tick_lets_go, started}
use Rattle.lists.specs.Each.{each_to}
use Rattle.lists.specs.Fold.{fold_from}
use Rattle.lists.proofs.Both.{impossible, and_left, and_right, and_both, neither}
use Rattle.state.specs.declared.State.{State}
use Rattle.state.specs.State.{with_records}
use Rattle.state.specs.Fresh.{config_of}
use Rattle.entry_ticks.specs.Many.{many_of, starts_next, reaches_next, turns_next, ends_in, stays_of, later_by, gone_of, settled_of}
use Rattle.entry_ticks.specs.Tick.{tick_at, ticked_to, tick_once, ticks_to}

-- ONE TIMER: whether it ends within n ticks. Each timer of a record takes these laws once.

ends_yes : (n t : ℕ) → 0 < t → t ≤ n → ends_in n t ≡ true
unfolding ends_in
ends_yes n t h l = rw (lt-ltb 0 t h, le-leb t n l)

ends_is : (n t : ℕ) → ends_in n t ≡ true → (0 < t) × (t ≤ n)
unfolding ends_in
ends_is n t e = (ltb-true 0 t (and_left (ltb 0 t) (leb t n) e), leb-true t n (and_right (ltb 0 t) (leb t n) e))

ends_no : (n t : ℕ) → ((0 < t) × (t ≤ n) → ⊥) → ends_in n t ≡ false
ends_no n t no_end = go (ends_in n t) refl
  where
    go : (b : Bool) → ends_in n t ≡ b → ends_in n t ≡ false
    go true e = absurd (no_end (ends_is n t e))
    go false e = e

-- in the next tick, which is where it stands at 1
ends_next : (t : ℕ) → eqb t 1 ≡ ends_in 1 t
ends_next t = go (eqb t 1) refl
  where
    go : (b : Bool) → eqb t 1 ≡ b → b ≡ ends_in 1 t
    go true e = let z : t ≡ 1 = eqb-true t 1 e in sym (ends_yes 1 t (omega arith) (omega arith))
    go false e = sym (ends_no 1 t (λ q. eqb-false t 1 e (omega (arith, q.0, q.1))))

or_true : (a : Bool) → (a || true) ≡ true
or_true true = refl
or_true false = refl

-- in the first of some ticks, or in those after it
ends_more : (n t : ℕ) → (ends_in n (t - 1) || ends_in 1 t) ≡ ends_in (suc n) t
ends_more n t = go (ends_in (suc n) t) refl
  where
    late : ends_in (suc n) t ≡ true → Dec (t ≤ 1) → (ends_in n (t - 1) || ends_in 1 t) ≡ true
    late e (yes l) =
        let q = ends_is (suc n) t e in
        ap (λ (b : Bool). ends_in n (t - 1) || b) (ends_yes 1 t q.0 l) ∙ or_true (ends_in n (t - 1))
    late e (no l) =
        let q = ends_is (suc n) t e in
        ap (λ (b : Bool). b || ends_in 1 t) (ends_yes n (t - 1) (omega arith) (omega (arith, q.1)))

    go : (b : Bool) → ends_in (suc n) t ≡ b → (ends_in n (t - 1) || ends_in 1 t) ≡ b
    go true e = late e (dec_le t 1)
    go false e =
        let never : (0 < t) × (t ≤ suc n) → ⊥ = λ q. impossible (sym e ∙ ends_yes (suc n) t q.0 q.1) in
        ap (λ (b : Bool). b || ends_in 1 t) (ends_no n (t - 1) (λ q. never (omega (arith, q.0), omega (arith, q.1))))
        ∙ ends_no 1 t (λ q. never (q.0, omega (arith, q.1)))

-- one that ends in the ticks after the first ends in all of them
ends-all : (n t : ℕ) → ends_in n (t - 1) ≡ true → ends_in (suc n) t ≡ true
ends-all n t e = sym (ends_more n t) ∙ ap (λ (b : Bool). b || ends_in 1 t) e

-- A TICK THAT TURNS NOTHING

module _ (g : Config) (c : Connection) where
  start-stays : starts_next g c ≡ false → started_of g c ≡ c
  unfolding started_of
  start-stays p = rw p

  reach_stays : reaches_next g c ≡ false → reach_of g c ≡ c
  unfolding reach_of
  reach_stays p = rw p

  -- what does not turn is not to be closed
  no_close : turns_next g c ≡ false → c.close_wanted ≡ false
  no_close p = (neither c.close_wanted _ (neither (c.close_wanted || starts_next g c) _ p).0).0

-- a tick that does not close, let go, start or reach lets the timers run and does no more
only_runs : (g : Config) (c : Connection) → turns_next g c ≡ false → expires g c ≡ false → tick_of g c ≡ run_of (sunk_of c)
only_runs g c p x =
    let t = neither (c.close_wanted || starts_next g c) _ p in
    let u = neither c.close_wanted _ t.0 in
    sym (tick-goes-on g c u.0 x) ∙ ap (λ (d : Connection). run_of (reach_of g d)) (start-stays g (sunk_of c) u.1)
    ∙ ap run_of (reach_stays g (sunk_of c) t.1)

-- the same record with other timers, and another due mark
abbrev timed : Connection → ℕ → Bool → ℕ → Connection
timed c t d a = with_watch (alive_at a c.watch) (with_send c.used t d c)

retimed : (c : Connection) {t u : ℕ} {d e : Bool} {a b : ℕ} → t ≡ u → d ≡ e → a ≡ b → timed c t d a ≡ timed c u e b
retimed c {t} {u} {d} {e} {a} {b} x y z = ap (λ (k : ℕ). timed c k d a) x ∙ ap (λ (k : Bool). timed c u k a) y ∙ ap (timed c u e) z

-- a timer that does not run makes nothing due
not_due : (n t : ℕ) (d : Bool) → t ≡ 0 → d ≡ (ends_in n t || d)
not_due n t d z = sym (ap (λ (b : Bool). b || d) (ends_no n t (λ q. omega (arith, q.0))))

-- what the timers run in one tick
run-later : (c : Connection) → run_of (sunk_of c) ≡ later_by 1 c
unfolding run_of
run-later c = go (eqb c.timer 0) refl
  where
    go : (b : Bool) → eqb c.timer 0 ≡ b
        → cond b (sunk_of c) (with_send c.used (c.timer - 1) (eqb c.timer 1 || c.due) (sunk_of c)) ≡ later_by 1 c
    go true e =
        let z : c.timer ≡ 0 = eqb-true _ _ e in
        retimed c (omega arith) (not_due 1 c.timer c.due z) refl
    go false e = ap (λ (b : Bool). with_send c.used (c.timer - 1) (b || c.due) (sunk_of c)) (ends_next c.timer)

-- none, where no tick is left or no timer runs
later_none : (c : Connection) → c ≡ later_by 0 c
later_none c =
    retimed c (omega arith) (sym (ap (λ (b : Bool). b || c.due) (ends_no 0 c.timer (λ q. omega (arith, q.0, q.1))))) (omega arith)

later-still : (n : ℕ) (c : Connection) → c.timer ≡ 0 → c.watch.alive ≡ 0 → c ≡ later_by n c
later-still n c t a = retimed c (omega arith) (not_due n c.timer c.due t) (omega arith)

or_or : (a b c : Bool) → (a || (b || c)) ≡ ((a || b) || c)
or_or true b c = refl
or_or false b c = refl

-- in one tick and then in n
later_more : (n : ℕ) (c : Connection) → later_by n (later_by 1 c) ≡ later_by (suc n) c
later_more n c =
    retimed c (omega arith)
    (or_or (ends_in n (c.timer - 1)) (ends_in 1 c.timer) c.due ∙ ap (λ (b : Bool). b || c.due) (ends_more n c.timer)) (omega arith)

-- N TICKS THAT DO NOT LET GO. The end of the alive timer, x in all of them and y in the first or in those after it, the mark r, TCP t.

stays-first : (x y r t : Bool) → (y ≡ true → x ≡ true) → ((r || not x) || t) ≡ true → (y && not r && not t) ≡ false
stays-first x false r t h p = refl
stays-first x true true t h p = refl
stays-first x true false true h p = refl
stays-first x true false false h p = impossible (ap (λ (b : Bool). (false || not b) || false) (sym (h refl)) ∙ p)

stays-rest : (x y r t : Bool) → (y ≡ true → x ≡ true) → ((r || not x) || t) ≡ true → ((r || not y) || t) ≡ true
stays-rest x false true t h p = refl
stays-rest x false false t h p = refl
stays-rest x true r t h p = ap (λ (b : Bool). (r || not b) || t) (sym (h refl)) ∙ p

stays_early : (x r t : Bool) → x ≡ false → ((r || not x) || t) ≡ true
stays_early x true t e = refl
stays_early x false t e = ap (λ (b : Bool). (false || not b) || t) e

module _ (g : Config) where
  stays_now : (n : ℕ) (c : Connection) → (stays_of (suc n) c || g.tcp) ≡ true → expires g c ≡ false
  stays_now n c p = stays-first (ends_in (suc n) c.watch.alive) (eqb c.watch.alive 1) c.watch.remote_set g.tcp at_one p
    where
      at_one : eqb c.watch.alive 1 ≡ true → ends_in (suc n) c.watch.alive ≡ true
      at_one e = let z : c.watch.alive ≡ 1 = eqb-true _ _ e in ends_yes (suc n) c.watch.alive (omega arith) (omega arith)

  stays_on : (n : ℕ) (c : Connection) → (stays_of (suc n) c || g.tcp) ≡ true → (stays_of n (later_by 1 c) || g.tcp) ≡ true
  stays_on n c p =
      stays-rest (ends_in (suc n) c.watch.alive) (ends_in n (c.watch.alive - 1)) c.watch.remote_set g.tcp
      (ends-all n c.watch.alive) p

  -- THE TIMERS RUN, and nothing else moves
  pub many_later : (n : ℕ) (c : Connection) → turns_next g c ≡ false → (stays_of n c || g.tcp) ≡ true → many_of g n c ≡ later_by n c
  unfolding many_of
  many_later zero c p h = later_none c
  many_later (suc n) c p h =
      ap (many_of g n) (only_runs g c p (stays_now n c h) ∙ run-later c)
      ∙ many_later n (later_by 1 c) p (stays_on n c h)
      ∙ later_more n c

  -- first some ticks, then the others
  in_two : (m n : ℕ) (c : Connection) → many_of g (m + n) c ≡ many_of g n (many_of g m c)
  unfolding many_of
  in_two zero n c = let e : 0 + n ≡ n = omega arith in ap (λ (k : ℕ). many_of g k c) e
  in_two (suc m) n c = let e : suc m + n ≡ suc (m + n) = omega arith in ap (λ (k : ℕ). many_of g k c) e ∙ in_two m n (tick_of g c)

-- a record that does not turn and has no timer that runs waits
pub waits : (g : Config) (c : Connection) → turns_next g c ≡ false → c.timer ≡ 0 → c.watch.alive ≡ 0 → (n : ℕ) → many_of g n c ≡ c
waits g c p t a n =
    let never = ends_no n c.watch.alive (λ q. omega (arith, q.0)) in
    many_later g n c p (stays_early _ c.watch.remote_set g.tcp never) ∙ sym (later-still n c t a)

-- LET GO at the end of the alive timer: what is left of n ticks finds a record that waits

module _ (g : Config) (c : Connection) (quiet : turns_next g c ≡ false) where
  -- the tick at the end
  last-tick : expires g (later_by (c.watch.alive - 1) c) ≡ true → tick_of g (later_by (c.watch.alive - 1) c) ≡ let_go_of g c
  last-tick x = sym (tick_lets_go g (later_by (c.watch.alive - 1) c) (no_close g c quiet) x)

  pub many_leaves : (n : ℕ) → (stays_of n c || g.tcp) ≡ false → many_of g n c ≡ many_of g (n - c.watch.alive) (let_go_of g c)
  unfolding many_of
  many_leaves n h =
      let s = neither (stays_of n c) g.tcp h in
      let r = neither c.watch.remote_set _ s.0 in
      let q = ends_is n c.watch.alive (not-false _ r.1) in
      let w : n ≡ (c.watch.alive - 1) + suc (n - c.watch.alive) = omega (arith, q.0, q.1) in
      let one : c.watch.alive - (c.watch.alive - 1) ≡ 1 = omega (arith, q.0) in
      let early = ends_no (c.watch.alive - 1) c.watch.alive (λ z. omega (arith, z.0, z.1)) in
      let x = and_both (and_both (eq-eqb _ _ one) (ap not r.0)) (ap not s.1) in
      ap (λ (k : ℕ). many_of g k c) w
      ∙ in_two g (c.watch.alive - 1) (suc (n - c.watch.alive)) c
      ∙ ap (many_of g (suc (n - c.watch.alive))) (many_later g (c.watch.alive - 1) c quiet (stays_early _ c.watch.remote_set g.tcp early))
      ∙ ap (many_of g (n - c.watch.alive)) (last-tick x)

  -- the tick after it reaches the record where it can be reached
  gone_runs : run_of (reach_of g (started_of g (sunk_of (let_go_of g c)))) ≡ reach_of g (let_go_of g c)
  unfolding started_of reach_of run_of
  gone_runs = go (reaches_next g (let_go_of g c))
    where
      go : (b : Bool) → run_of (cond b (become Online (let_go_of g c)) (let_go_of g c)) ≡ cond b (become Online (let_go_of g c)) (let_go_of g c)
      go true = refl
      go false = refl

  gone-tick : tick_of g (let_go_of g c) ≡ reach_of g (let_go_of g c)
  gone-tick = sym (tick-goes-on g (let_go_of g c) (no_close g c quiet) refl) ∙ gone_runs

  -- and those after that do nothing
  gone-waits : (n : ℕ) → many_of g n (reach_of g (let_go_of g c)) ≡ reach_of g (let_go_of g c)
  unfolding reach_of
  gone-waits n = go (reaches_next g (let_go_of g c)) refl
    where
      go : (b : Bool) → reaches_next g (let_go_of g c) ≡ b
          → many_of g n (cond b (become Online (let_go_of g c)) (let_go_of g c)) ≡ cond b (become Online (let_go_of g c)) (let_go_of g c)
      go true e = waits g (become Online (let_go_of g c)) (ap (λ (k : Bool). k || false || false) (no_close g c quiet)) refl refl n
      go false e = waits g (let_go_of g c) (ap₂ (λ (k b : Bool). k || false || b) (no_close g c quiet) e) refl refl n

  pub gone_many : (n : ℕ) → many_of g (suc n) (let_go_of g c) ≡ reach_of g (let_go_of g c)
  unfolding many_of
  gone_many n = ap (many_of g n) gone-tick ∙ gone-waits n

  -- so much for one that is let go
  gone-is : (n : ℕ) → (stays_of n c || g.tcp) ≡ false → gone_of g n c ≡ many_of g n c
  unfolding gone_of many_of
  gone-is n h = go (leb n c.watch.alive) refl
    where
      go : (b : Bool) → leb n c.watch.alive ≡ b → cond b (let_go_of g c) (reach_of g (let_go_of g c)) ≡ many_of g n c
      go true e =
          let z : n - c.watch.alive ≡ 0 = omega (arith, leb-true n c.watch.alive e) in
          sym (many_leaves n h ∙ ap (λ (k : ℕ). many_of g k (let_go_of g c)) z)
      go false e =
          let z : n - c.watch.alive ≡ suc (n - c.watch.alive - 1) = omega (arith, leb-false n c.watch.alive e) in
          sym (many_leaves n h ∙ ap (λ (k : ℕ). many_of g k (let_go_of g c)) z ∙ gone_many (n - c.watch.alive - 1))

  -- ALL AT ONCE is n ticks, of a record that the next one does not turn
  pub settled_many : (n : ℕ) → settled_of g n c ≡ many_of g n c
  unfolding settled_of
  settled_many n = go (stays_of n c || g.tcp) refl
    where
      go : (b : Bool) → (stays_of n c || g.tcp) ≡ b → cond b (later_by n c) (gone_of g n c) ≡ many_of g n c
      go true e = sym (many_later g n c quiet e)
      go false e = gone-is n e

-- what the tests of `gone_of` and `settled_of` say
module _ (g : Config) (n : ℕ) (c : Connection) {t b : Bool} where
  pub gone_at : t ≡ leb n c.watch.alive → t ≡ b → cond b (let_go_of g c) (reach_of g (let_go_of g c)) ≡ gone_of g n c
  unfolding gone_of
  gone_at is e = ap (λ (x : Bool). cond x (let_go_of g c) (reach_of g (let_go_of g c))) (sym e ∙ is)

  pub settled_at : t ≡ stays_of n c → (t || g.tcp) ≡ b → cond b (later_by n c) (gone_of g n c) ≡ settled_of g n c
  unfolding settled_of
  settled_at is e = ap (λ (x : Bool). cond x (later_by n c) (gone_of g n c)) (sym e ∙ ap (λ (x : Bool). x || g.tcp) is)

-- WHETHER THE NEXT TICK TURNS, test by test: a close, else a start of what is offline, else what reaches
module _ (g : Config) (c : Connection) where
  pub turns_closing : c.close_wanted ≡ true → true ≡ turns_next g c
  turns_closing e = rw e

  module _ (kept : c.close_wanted ≡ false) where
    pub turns_offline : is_offline c.mode ≡ true → (c.open_wanted || g.automatic) ≡ turns_next g c
    turns_offline e = rw (kept, e, never c.mode e) (go (c.open_wanted || g.automatic))
      where
        never : (m : Mode) → is_offline m ≡ true → is_reconnect m ≡ false
        never Offline p = refl
        never Reconnect p = impossible p
        never Online p = refl

        go : (b : Bool) → b ≡ (b || false)
        go true = refl
        go false = refl

    pub turns_else : is_offline c.mode ≡ false → reaches_next g c ≡ turns_next g c
    turns_else e = rw (kept, e)

-- THE LOOP of single ticks while they turn: the ticks that are left lead to the whole's end

module _ (g : Config) where
  pub none_left : (n : ℕ) (c : Connection) → n ≡ 0 → c ≡ many_of g n c
  unfolding many_of
  none_left n c z = sym (ap (λ (k : ℕ). many_of g k c) z)

  pub ticked : (n : ℕ) (c : Connection) → (n ≡ 0 → ⊥) → many_of g (n - 1) (tick_of g c) ≡ many_of g n c
  unfolding many_of
  ticked zero c h = absurd (h refl)
  ticked (suc n) c h = let e : suc n - 1 ≡ n = omega arith in ap (λ (k : ℕ). many_of g k (tick_of g c)) e

-- AND THERE ARE AT MOST TWO OF THEM

module _ (g : Config) where
  started_settles : (c : Connection) → starts_next g (started_of g c) ≡ false
  unfolding started_of
  started_settles c = go (starts_next g c) refl
    where
      go : (b : Bool) → starts_next g c ≡ b
          → starts_next g (started_of g c) ≡ false
      go true e = rw e
      go false e = rw e e

  reached_settles : (c : Connection) → c.close_wanted ≡ false → starts_next g c ≡ false
      → turns_next g (reach_of g c) ≡ false
  unfolding reach_of
  reached_settles c k s = go (reaches_next g c) refl
    where
      go : (b : Bool) → reaches_next g c ≡ b → turns_next g (cond b (become Online c) c) ≡ false
      go true e = ap (λ (b : Bool). b || false || false) k
      go false e = ap₂ (λ (a b : Bool). a || b) (ap₂ (λ (a b : Bool). a || b) k s) e

  run_turns : (c : Connection) → turns_next g (run_of c) ≡ turns_next g c
  unfolding run_of
  run_turns c = go (eqb c.timer 0)
    where
      go : (b : Bool) → turns_next g (cond b c (with_send c.used (c.timer - 1) (eqb c.timer 1 || c.due) c)) ≡ turns_next g c
      go true = refl
      go false = refl

  -- a tick that neither closes nor lets go leaves nothing to turn
  onward_settles : (c : Connection) → c.close_wanted ≡ false → expires g c ≡ false → turns_next g (tick_of g c) ≡ false
  onward_settles c k x =
      subst (λ (d : Connection). turns_next g d ≡ false) (tick-goes-on g c k x)
      (run_turns (reach_of g (started_of g (sunk_of c)))
      ∙ reached_settles (started_of g (sunk_of c)) ((started g (sunk_of c)).wish ∙ k) (started_settles (sunk_of c)))

  -- one that closes or lets go leaves no alive timer, so the next neither closes nor lets go: TWO TICKS SETTLE A RECORD
  pub two_settle : (c : Connection) → turns_next g (tick_of g c) ≡ true → turns_next g (tick_of g (tick_of g c)) ≡ false
  two_settle c p = go c.close_wanted (expires g c) refl refl
    where
      go : (b x : Bool) → c.close_wanted ≡ b → expires g c ≡ x → turns_next g (tick_of g (tick_of g c)) ≡ false
      go true x k e = subst (λ (d : Connection). turns_next g (tick_of g d) ≡ false) (tick-closes g c k) (onward_settles (closed_of g c) refl refl)
      go false true k e = subst (λ (d : Connection). turns_next g (tick_of g d) ≡ false) (tick_lets_go g c k e) (onward_settles (let_go_of g c) k refl)
      go false false k e = impossible (sym (onward_settles c k e) ∙ p)

-- OF THE WHOLE MODULE

-- what n ticks make of connection i
abbrev pub many_at : List ℕ → ℕ → ℕ → Connection → Connection
many_at image n i c = many_of (config_of image i) n c

-- no tick leaves every record, and one tick of each and then n are n + 1 of each
each_none : (image : List ℕ) (k i : ℕ) (l : List Connection) → l ≡ each_to (many_at image 0) k i l
unfolding many_of
each_none image k zero l = refl
each_none image k (suc i) [] = refl
each_none image k (suc i) (c ∷ l) = ap (λ (m : List Connection). c ∷ m) (each_none image (suc k) i l)

each_more : (image : List ℕ) (n k i : ℕ) (l : List Connection)
    → each_to (many_at image n) k i (each_to (tick_at image) k i l) ≡ each_to (many_at image (suc n)) k i l
unfolding many_of
each_more image n k zero l = refl
each_more image n k (suc i) [] = refl
each_more image n k (suc i) (c ∷ l) = ap (λ (m : List Connection). many_at image n k (tick_at image k c) ∷ m) (each_more image n (suc k) i l)

folded_each : (image : List ℕ) (rows n k : ℕ) (s : State)
    → fold_from (tick_once image rows) n k s ≡ with_records (each_to (many_at image n) 0 rows s.connections) s
unfolding fold_from ticked_to
folded_each image rows zero k s = ap (λ (l : List Connection). with_records l s) (each_none image 0 rows s.connections)
folded_each image rows (suc n) k s =
    folded_each image rows n (suc k) (ticked_to image rows s)
    ∙ ap (λ (l : List Connection). with_records l s) (each_more image n 0 rows s.connections)

-- MANY TICKS OF THE MODULE are as many of each record
pub ticks-each : (image : List ℕ) (rows n : ℕ) (s : State) → ticks_to image rows n s ≡ with_records (each_to (many_at image n) 0 rows s.connections) s
unfolding ticks_to
ticks-each image rows n s = folded_each image rows n 0 s

-- and one is one tick
pub ticks-one : (image : List ℕ) (rows : ℕ) (s : State) → ticks_to image rows 1 s ≡ ticked_to image rows s
unfolding ticks_to fold_from
ticks-one image rows s = refl
