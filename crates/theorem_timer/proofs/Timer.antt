-- TIMER AND DUE MARK after any appends and ticks that do not let the peer go, from a record with no timer and not due (`timer-reads`). Where no
-- alive timer runs, no tick does (`unwatched_keeps`).
use Prim.Native.Nat.{ℕ, zero, suc, ◌+◌, ◌-◌, ◌<◌, ◌≤◌}
use mathlib.Core.Path.{◌≡◌, refl, sym, ap, ap₂, ◌∙◌, subst}
use mathlib.Core.Bool.{Bool, true, false, cond, not, ◌&&◌, ◌||◌}
use mathlib.Core.List.{List, [], ◌∷◌}
use native.Mathlib.Omega.{arith}
use lib.Dec.{eqb, ltb}
use lib.ListN.{length}
use borrow.Author.Tests.{eqb-true, eqb-false, ne_eqb, ltb-true, ltb-false}
use Rattle.lists.proofs.Both.{impossible}
use Rattle.table_rows.specs.declared.DestinationRow.{DestinationRow}
use Rattle.connection.specs.declared.Config.{Config}
use Rattle.connection.specs.declared.Connection.{Connection}
use Rattle.connection.specs.Connection.{is_offline, is_reconnect, wildcard, started_of, reach_of, run_of, expires, sunk_of, tick_of, with_mode, with_send}
use Rattle.connection.specs.Connection.{become}
use Rattle.connection.specs.declared.Mode.TheVariants.{Reconnect, Online}
use Rattle.connection.specs.declared.Watch.{Watch}
use Rattle.connection.proofs.Ticks.{Tick, closes_wanted, lets_go, goes_on, tick_is, tick-goes-on}
use Rattle.send_destination.specs.Destination.{timer_of}
use Rattle.theorem_timer.specs.Timer.{BufferStep, stores, ticks, buffer_after, KeepsPeer, WaitsSince, just_stored, stored_before}
use Rattle.theorem_timer.specs.Timer.{one_tick_more, Overdue, by_trigger, by_timeout, TimerReads}

-- AN APPEND, by what the timer becomes
module _ (steps : List BufferStep) (timer : ℕ) (due : Bool) (h : TimerReads steps timer due) (d : DestinationRow) (used : ℕ) where
  abbrev more : List BufferStep
  more = stores d used ∷ steps

  -- the trigger: due, and the timer stops
  triggered : d.trigger ≡ true → TimerReads more 0 true
  triggered t =
      record {
        due_by = λ _. record {
          trigger = d.trigger;
          timeout = d.timeout;
          age = 0;
          waits = just_stored d used steps;
          over =
              subst (λ (b : Bool). Overdue b d.timeout 0) (sym t) (by_trigger d.timeout 0);
        };
        over_due = λ _ _ _ _ _. refl;
        stopped = λ _. refl;
        each_allows = λ e. impossible (sym e);
        one_allows = λ l. absurd (omega (arith, l));
      }

  -- due already: it stays so, and the timer stopped
  stays-due : due ≡ true → TimerReads more timer true
  stays-due e =
      let o = h.due_by e in
      record {
        due_by = λ _. record { trigger = o.trigger; timeout = o.timeout; age = o.age; waits = stored_before d used o.waits; over = o.over };
        over_due = λ _ _ _ _ _. refl;
        stopped = λ _. h.stopped e;
        each_allows = λ f. impossible (sym f);
        one_allows = λ l. absurd (omega (arith, l, h.stopped e));
      }

  module _ (plain : d.trigger ≡ false) (rests : due ≡ false) where
    -- nothing is overdue
    not_over : (trigger : Bool) (timeout age : ℕ) → WaitsSince more trigger timeout age → Overdue trigger timeout age → false ≡ true
    not_over _ _ _ (just_stored _ _ _) o = fresh d.trigger d.timeout plain o
      where
        fresh : (trigger : Bool) (timeout : ℕ) → trigger ≡ false → Overdue trigger timeout 0 → false ≡ true
        fresh _ timeout p (by_trigger _ _) = sym p
        fresh trigger timeout p (by_timeout _ _ _ l u) = absurd (omega (arith, l, u))
    not_over trigger timeout age (stored_before _ _ w) o = sym rests ∙ h.over_due trigger timeout age w o

    -- the timer as it was
    same-timer : (0 < d.timeout → (0 < timer) × (timer ≤ d.timeout)) → TimerReads more timer false
    same-timer short =
        record {
          due_by = λ e. impossible e;
          over_due = λ trigger timeout age w o. not_over trigger timeout age w o;
          stopped = λ e. impossible e;
          each_allows = λ _ trigger timeout age w l. each trigger timeout age w l;
          one_allows = λ l. let a = h.one_allows l in
              record { trigger = a.trigger; timeout = a.timeout; age = a.age; waits = stored_before d used a.waits; left = a.left };
        }
      where
        each : (trigger : Bool) (timeout age : ℕ) → WaitsSince more trigger timeout age → 0 < timeout → (0 < timer) × (age + timer ≤ timeout)
        each _ _ _ (just_stored _ _ _) l = let s = short l in (s.0, omega (arith, s.1))
        each trigger timeout age (stored_before _ _ w) l = h.each_allows rests trigger timeout age w l

    -- the timeout, where that is sooner or no timer runs
    new_timer : 0 < d.timeout → (0 < timer → d.timeout < timer) → TimerReads more d.timeout false
    new_timer some sooner =
        record {
          due_by = λ e. impossible e;
          over_due = λ trigger timeout age w o. not_over trigger timeout age w o;
          stopped = λ e. impossible e;
          each_allows = λ _ trigger timeout age w l. each trigger timeout age w l;
          one_allows = λ l. record { trigger = d.trigger; timeout = d.timeout; age = 0; waits = just_stored d used steps; left = omega arith };
        }
      where
        each : (trigger : Bool) (timeout age : ℕ) → WaitsSince more trigger timeout age → 0 < timeout → (0 < d.timeout) × (age + d.timeout ≤ timeout)
        each _ _ _ (just_stored _ _ _) l = (some, omega arith)
        each trigger timeout age (stored_before _ _ w) l =
            let a = h.each_allows rests trigger timeout age w l in
            (some, omega (arith, a.0, a.1, sooner a.0))

  -- so after any append
  pub stored_reads : TimerReads more (timer_of d.trigger d.timeout timer due) (d.trigger || due)
  unfolding timer_of
  stored_reads = go d.trigger refl due refl
    where
      runs : d.trigger ≡ false → due ≡ false → (a : Bool) → ltb 0 d.timeout ≡ a → (b : Bool) → eqb timer 0 ≡ b → (e : Bool) → ltb d.timeout timer ≡ e
          → TimerReads more (cond (a && (b || e)) d.timeout timer) false
      runs t u false a b _ e _ = same-timer t u (λ l. absurd (omega (arith, l, ltb-false 0 d.timeout a)))
      runs t u true a true z e _ = new_timer t u (ltb-true 0 d.timeout a) (λ l. absurd (omega (arith, l, eqb-true timer 0 z)))
      runs t u true a false z true s = new_timer t u (ltb-true 0 d.timeout a) (λ _. ltb-true d.timeout timer s)
      runs t u true a false z false s =
          let ne : timer ≡ 0 → ⊥ = eqb-false timer 0 z in
          same-timer t u (λ _. (omega (arith, ne), ltb-false d.timeout timer s))

      go : (t : Bool) → d.trigger ≡ t → (u : Bool) → due ≡ u
          → TimerReads more (cond t 0 (cond (not u && ltb 0 d.timeout && (eqb timer 0 || ltb d.timeout timer)) d.timeout timer)) (t || u)
      go true t u _ = triggered t
      go false t true u = stays-due u
      go false t false u = runs t u (ltb 0 d.timeout) refl (eqb timer 0) refl (ltb d.timeout timer) refl

-- A TICK
module _ (steps : List BufferStep) where
  -- one tick later it is overdue all the same
  later-over : (trigger : Bool) (timeout age : ℕ) → Overdue trigger timeout age → Overdue trigger timeout (suc age)
  later-over _ timeout age (by_trigger _ _) = by_trigger timeout (suc age)
  later-over trigger timeout age (by_timeout _ _ _ l u) = by_timeout trigger timeout (suc age) l (omega (arith, u))

  -- overdue a tick later, not due and with so much time left: by nothing
  over_soon : (timer : ℕ) → TimerReads steps timer false → (trigger : Bool) (timeout age : ℕ)
      → WaitsSince steps trigger timeout age → Overdue trigger timeout (suc age)
      → (0 < timer) × (timer ≤ 1)
  over_soon timer h _ timeout age w (by_trigger _ _) = impossible (h.over_due true timeout age w (by_trigger timeout age))
  over_soon timer h trigger timeout age w (by_timeout _ _ _ l u) =
      let a = h.each_allows refl trigger timeout age w l in
      (a.0, omega (arith, a.1, u))

  -- no timer runs
  stopped-reads : (due : Bool) → TimerReads steps 0 due → TimerReads (ticks ∷ steps) 0 due
  stopped-reads true h =
      let o = h.due_by refl in
      record {
        due_by = λ _. record {
          trigger = o.trigger;
          timeout = o.timeout;
          age = suc o.age;
          waits =
              one_tick_more o.waits;
          over = later-over o.trigger o.timeout o.age o.over;
        };
        over_due = λ _ _ _ _ _. refl;
        stopped = λ _. refl;
        each_allows = λ e. impossible (sym e);
        one_allows = λ l. absurd (omega (arith, l));
      }
  stopped-reads false h =
      record {
        due_by = λ e. impossible e;
        over_due = λ trigger timeout age w o. absurd (over trigger timeout age w o);
        stopped = λ e. impossible e;
        each_allows = λ _ trigger timeout age w l. absurd (each trigger timeout age w l);
        one_allows = λ l. absurd (omega (arith, l));
      }
    where
      over : (trigger : Bool) (timeout age : ℕ) → WaitsSince (ticks ∷ steps) trigger timeout age → Overdue trigger timeout age → ⊥
      over trigger timeout _ (one_tick_more {age = a} w) o = omega (arith, (over_soon 0 h trigger timeout a w o).0)

      each : (trigger : Bool) (timeout age : ℕ) → WaitsSince (ticks ∷ steps) trigger timeout age → 0 < timeout → ⊥
      each trigger timeout _ (one_tick_more {age = a} w) l = omega (arith, (h.each_allows refl trigger timeout a w l).0)

  -- the last tick of the timer
  ends-reads : TimerReads steps 1 false → TimerReads (ticks ∷ steps) 0 true
  ends-reads h =
      let a = h.one_allows (omega arith) in
      record {
        due_by = λ _. record {
          trigger = a.trigger;
          timeout = a.timeout;
          age = suc a.age;
          waits = one_tick_more a.waits;
          over = by_timeout a.trigger a.timeout (suc a.age) (omega (arith, a.left)) (omega (arith, a.left));
        };
        over_due = λ _ _ _ _ _. refl;
        stopped = λ _. refl;
        each_allows = λ e. impossible (sym e);
        one_allows = λ l. absurd (omega (arith, l));
      }

  -- it runs on
  runs_reads : (n : ℕ) → TimerReads steps (suc (suc n)) false → TimerReads (ticks ∷ steps) (suc n) false
  runs_reads n h =
      record {
        due_by = λ e. impossible e;
        over_due = λ trigger timeout age w o. absurd (over trigger timeout age w o);
        stopped = λ e. impossible e;
        each_allows = λ _ trigger timeout age w l. each trigger timeout age w l;
        one_allows = λ l. let a = h.one_allows (omega arith) in record {
          trigger = a.trigger;
          timeout = a.timeout;
          age = suc a.age;
          waits = one_tick_more a.waits;
          left = omega (arith, a.left);
        };
      }
    where
      over : (trigger : Bool) (timeout age : ℕ) → WaitsSince (ticks ∷ steps) trigger timeout age → Overdue trigger timeout age → ⊥
      over trigger timeout _ (one_tick_more {age = a} w) o = omega (arith, (over_soon (suc (suc n)) h trigger timeout a w o).1)

      each : (trigger : Bool) (timeout age : ℕ) → WaitsSince (ticks ∷ steps) trigger timeout age → 0 < timeout → (0 < suc n) × (age + suc n ≤ timeout)
      each trigger timeout _ (one_tick_more {age = a} w) l = (omega arith, omega (arith, (h.each_allows refl trigger timeout a w l).1))

  -- so after any tick
  ticked-reads : (timer : ℕ) (due : Bool) → TimerReads steps timer due
      → TimerReads (ticks ∷ steps) (cond (eqb timer 0) timer (timer - 1)) (cond (eqb timer 0) due (eqb timer 1 || due))
  ticked-reads zero due h = stopped-reads due h
  ticked-reads (suc n) true h = absurd (omega (arith, h.stopped refl))
  ticked-reads (suc zero) false h = ends-reads h
  ticked-reads (suc (suc n)) false h =
      let e : suc (suc n) - 1 ≡ suc n = omega arith in
      rw (ne_eqb (suc (suc n)) 0 (λ q. omega (arith, q)), ne_eqb (suc (suc n)) 1 (λ q. omega (arith, q)), e) (runs_reads n h)

-- WHERE NOTHING WAITS no timer runs, and nothing is due
none_waits : {trigger : Bool} {timeout age : ℕ} (steps : List BufferStep) → WaitsSince steps trigger timeout age → length steps ≡ 0 → ⊥
none_waits _ (just_stored d used steps) e = omega (arith, e)
none_waits _ (stored_before d used w) e = omega (arith, e)
none_waits _ (one_tick_more w) e = omega (arith, e)

pub empty_reads : (timer : ℕ) (due : Bool) → timer ≡ 0 → due ≡ false → TimerReads [] timer due
empty_reads timer due idle rests =
    record {
      due_by = λ e. impossible (sym rests ∙ e);
      over_due = λ trigger timeout age w. absurd (none_waits [] w refl);
      stopped = λ _. idle;
      each_allows = λ _ trigger timeout age w. absurd (none_waits [] w refl);
      one_allows = λ l. absurd (omega (arith, l, idle));
    }

-- ON A RECORD without close wanted
module _ (g : Config) where
  -- what a tick does before it lowers the timer
  abbrev readied : Connection → Connection
  readied c = reach_of g (started_of g c)

  abbrev ready : Connection → Connection
  ready c = readied (sunk_of c)

  ready_keeps : (P : Connection → Type 0) (c : Connection) → P c → P (with_mode Reconnect false c.close_wanted c) → P (become Online c)
      → P (become Online (with_mode Reconnect false c.close_wanted c)) → P (readied c)
  unfolding started_of reach_of
  ready_keeps P c stays starts reaches both = start (is_offline c.mode && (c.open_wanted || g.automatic))
    where
      either : (x : Connection) → P x → P (become Online x) → (b : Bool) → P (cond b (become Online x) x)
      either x p q true = q
      either x p q false = p

      reach : (x : Connection) → P x → P (become Online x) → P (reach_of g x)
      reach x p q = either x p q (is_reconnect x.mode && not g.tcp && not (wildcard x.remote))

      start : (b : Bool) → P (reach_of g (cond b (with_mode Reconnect false c.close_wanted c) c))
      start true = reach (with_mode Reconnect false c.close_wanted c) starts both
      start false = reach c stays reaches

  -- timer, due mark and close wanted are as they were
  pub record Untimed (c x : Connection) : Type 0 where
    pub timer : x.timer ≡ c.timer
    pub due : x.due ≡ c.due
    pub closing : x.close_wanted ≡ c.close_wanted

  ready-same : (c : Connection) → Untimed c (ready c)
  ready-same c =
      ready_keeps (Untimed c) (sunk_of c) (record { timer = refl; due = refl; closing = refl })
      (record { timer = refl; due = refl; closing = refl }) (record { timer = refl; due = refl; closing = refl })
      (record { timer = refl; due = refl; closing = refl })

  -- and then
  run_is : (c : Connection)
      → ((run_of c).timer ≡ cond (eqb c.timer 0) c.timer (c.timer - 1))
      × ((run_of c).due ≡ cond (eqb c.timer 0) c.due (eqb c.timer 1 || c.due)) × ((run_of c).close_wanted ≡ c.close_wanted)
  unfolding run_of
  run_is c = go (eqb c.timer 0)
    where
      go : (b : Bool)
          → ((cond b c (with_send c.used (c.timer - 1) (eqb c.timer 1 || c.due) c)).timer ≡ cond b c.timer (c.timer - 1))
          × ((cond b c (with_send c.used (c.timer - 1) (eqb c.timer 1 || c.due) c)).due ≡ cond b c.due (eqb c.timer 1 || c.due))
          × ((cond b c (with_send c.used (c.timer - 1) (eqb c.timer 1 || c.due) c)).close_wanted ≡ c.close_wanted)
      go true = (refl, refl, refl)
      go false = (refl, refl, refl)

  tick_runs : (c : Connection) → c.close_wanted ≡ false → expires g c ≡ false → tick_of g c ≡ run_of (ready c)
  tick_runs c e x = sym (tick-goes-on g c e x)

  -- a tick that neither closes nor lets go
  pub tick-reads : (steps : List BufferStep) (x : Connection) → x.close_wanted ≡ false → expires g x ≡ false → TimerReads steps x.timer x.due
      → TimerReads (ticks ∷ steps) (tick_of g x).timer (tick_of g x).due
  tick-reads steps x stays keeps h =
      let r = run_is (ready x) in
      let s = ready-same x in
      let is = tick_runs x stays keeps in
      subst (λ (y : Connection). TimerReads (ticks ∷ steps) y.timer y.due) (sym is)
      (subst (λ (n : ℕ). TimerReads (ticks ∷ steps) n (run_of (ready x)).due) (sym (r.0 ∙ ap (λ (n : ℕ). cond (eqb n 0) n (n - 1)) s.timer))
      (subst (λ (b : Bool). TimerReads (ticks ∷ steps) (cond (eqb x.timer 0) x.timer (x.timer - 1)) b)
      (sym (r.1 ∙ ap₂ (λ (n : ℕ) (b : Bool). cond (eqb n 0) b (eqb n 1 || b)) s.timer s.due)) (ticked-reads steps x.timer x.due h)))

  module _ (c : Connection) (idle : c.timer ≡ 0) (rests : c.due ≡ false) (stays : c.close_wanted ≡ false) where
    abbrev at : List BufferStep → Connection
    at steps = buffer_after g c steps

    stays_open : (steps : List BufferStep) → KeepsPeer g c steps → (at steps).close_wanted ≡ false
    unfolding buffer_after KeepsPeer
    stays_open [] k = stays
    stays_open (stores d used ∷ steps) k = stays_open steps k
    stays_open (ticks ∷ steps) (x, k) =
        ap (λ (x : Connection). x.close_wanted) (tick_runs (at steps) (stays_open steps k) x)
        ∙ (run_is (ready (at steps))).2
        ∙ (ready-same (at steps)).closing
        ∙ stays_open steps k

    -- WHAT TIMER AND DUE MARK SAY, after any appends and ticks
    pub timer-reads : (steps : List BufferStep) → KeepsPeer g c steps → TimerReads steps (buffer_after g c steps).timer (buffer_after g c steps).due
    unfolding buffer_after KeepsPeer
    timer-reads [] k = empty_reads c.timer c.due idle rests
    timer-reads (stores d used ∷ steps) k = stored_reads steps (at steps).timer (at steps).due (timer-reads steps k) d used
    timer-reads (ticks ∷ steps) (e, k) = tick-reads steps (at steps) (stays_open steps k) e (timer-reads steps k)

-- WHERE NO ALIVE TIMER RUNS no tick lets the peer go
tick-alive : (g : Config) (c : Connection) → c.watch.alive ≡ 0 → (tick_of g c).watch.alive ≡ 0
tick-alive g c z = go (tick_of g c) (tick_is g c)
  where
    go : (d : Connection) → Tick g c d → d.watch.alive ≡ 0
    go _ (closes_wanted e) = refl
    go _ (lets_go e x) = refl
    go d (goes_on _ e x t) = ap (λ (v : Watch). v.alive) t.watch ∙ omega (arith, z)

buffer_alive : (g : Config) (c : Connection) → c.watch.alive ≡ 0 → (steps : List BufferStep) → (buffer_after g c steps).watch.alive ≡ 0
unfolding buffer_after
buffer_alive g c z [] = z
buffer_alive g c z (stores d used ∷ steps) = buffer_alive g c z steps
buffer_alive g c z (ticks ∷ steps) = tick-alive g (buffer_after g c steps) (buffer_alive g c z steps)

pub unwatched_keeps : (g : Config) (c : Connection) → c.watch.alive ≡ 0 → (steps : List BufferStep) → KeepsPeer g c steps
unfolding KeepsPeer
unwatched_keeps g c z [] = tt
unwatched_keeps g c z (stores d used ∷ steps) = unwatched_keeps g c z steps
unwatched_keeps g c z (ticks ∷ steps) = (rw (buffer_alive g c z steps), unwatched_keeps g c z steps)
