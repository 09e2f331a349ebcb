-- WHY A TIMER RUNS: a datagram has replaced a wildcard, and the timer has run since (`running-since`); so from a machine where it does not run, as from
-- a fresh one, a connection is let go by its timer only then (`let_go_only`, `fresh_let_go_only`).
use Rattle.std.proofs.Common.{Ok}
use Prim.Native.Nat.{ℕ, zero, suc, ◌<◌}
use mathlib.Core.Path.{◌≡◌, refl, sym, ap, ◌∙◌, subst}
use mathlib.Core.Logic.{◌⊎◌, inl, inr}
use mathlib.Core.Bool.{true, true≢false}
use mathlib.Core.List.{List, [], ◌∷◌}
use native.Mathlib.Omega.{arith}
use lib.ListN.{length, get_or, replicate}
use native.Mathlib.Decide.{ℕ_discrete}
use Rattle.lists.specs.Each.{each}
use Rattle.table_layout.specs.Layout.{rows_of}
use Rattle.table_layout.specs.declared.Kind.TheVariants.{Connection as Connections}
use Rattle.table.specs.Table.{check_table}
use Rattle.connection.specs.declared.Connection.{Connection}
use Rattle.connection.specs.declared.Remote.{Remote}
use Rattle.connection.specs.Connection.{zero_record, expires}
use Rattle.state.specs.Fresh.{config_of, fresh_at, fresh_state}
use Rattle.entry_arrivals.specs.Arrivals.{arrival_of, datagram_of}
use Rattle.model.specs.Events.{datagram, accept, tick, transmit, switch_all, read_count, clear_count, Event, on, on_whole}
use Rattle.model_runs.specs.Streams.{EventBytes, RunBytes}
use Rattle.model_refines.specs.Machine.{Machine, machine, lent_to}
use Rattle.model_refines.specs.Run.{after_event, after_run, Good}
use Rattle.model_refines.proofs.Good.{event_good}
use Rattle.theorems.proofs.Three.{fresh_good}
use Rattle.theorem_alive.specs.Alive.{its_record, alive_of, Starts, wildcard_replaced, RunsThrough, StartedIn, started_here, started_later}
use Rattle.theorem_alive.proofs.Record.{ended_by, tick_none, met_none, runs_udp}
use Rattle.theorem_alive.proofs.Events.{whom, whom_is, whom_met, accept-tcp, sound, ticked}
use Rattle.theorem_alive.proofs.Events.{given, not_given, accepted, not_accepted, own-event_none, whole-event_none}

module _ (image : List ℕ) (k : ℕ) (there : k < rows_of image Connections) where
  -- ONE EVENT: a stopped timer that runs after it was started by it
  module _ (m : Machine) (good : Good image m) (z : alive_of image k m ≡ 0) where
    still : {e : Event} → alive_of image k (after_event image e m) ≡ 0 → 0 < alive_of image k (after_event image e m) → Starts image k m e
    still none l = absurd (omega (arith, none, l))

    given-starts : (group : ℕ) (source : Remote) → 0 < alive_of image k (after_event image (on_whole (datagram group source)) m)
        → Starts image k m (on_whole (datagram group source))
    given-starts group source l = go (ℕ_discrete (whom (datagram_of (lent_to image m) group source).answer) (suc k))
      where
        go : Dec (whom (datagram_of (lent_to image m) group source).answer ≡ suc k) → Starts image k m (on_whole (datagram group source))
        go (yes e) =
            let is = whom_is (datagram_of (lent_to image m) group source).answer k e in
            wildcard_replaced group source is
            (met_none (config_of image k) source (its_record image k m) z
            (subst (λ (d : Connection). 0 < d.watch.alive) (given image k m good there group source is) l))
        go (no ne) =
            still (ap (λ (d : Connection). d.watch.alive) (not_given image k m good there group source (λ is. ne (ap whom is ∙ whom_met k))) ∙ z) l

    accept-starts : (group : ℕ) (source : Remote) → 0 < alive_of image k (after_event image (on_whole (accept group source)) m)
        → Starts image k m (on_whole (accept group source))
    accept-starts group source l = go (ℕ_discrete (whom (arrival_of (lent_to image m) true group source).answer) (suc k))
      where
        after : Machine
        after = after_event image (on_whole (accept group source)) m

        go : Dec (whom (arrival_of (lent_to image m) true group source).answer ≡ suc k) → Starts image k m (on_whole (accept group source))
        go (yes e) =
            let is = whom_is (arrival_of (lent_to image m) true group source).answer k e in
            absurd (true≢false (sym (accept-tcp (lent_to image m) group source k is)
            ∙ runs_udp (config_of image k) (its_record image k after)
            (sound image k after (event_good image m good (on_whole (accept group source)) tt) there) l))
        go (no ne) =
            still (ap (λ (d : Connection). d.watch.alive) (not_accepted image k m good there group source (λ is. ne (ap whom is ∙ whom_met k))) ∙ z) l

    pub starts-only : (e : Event) → EventBytes e → 0 < alive_of image k (after_event image e m) → Starts image k m e
    starts-only (on i e) bytes l = still (own-event_none image k m good there z i e bytes) l
    starts-only (on_whole (datagram group source)) bytes l = given-starts group source l
    starts-only (on_whole (accept group source)) bytes l = accept-starts group source l
    starts-only (on_whole tick) bytes l =
        still (ap (λ (d : Connection). d.watch.alive) (ticked image k m good there) ∙ tick_none (config_of image k) (its_record image k m) z) l
    starts-only (on_whole (transmit pdu payload)) bytes l = still (whole-event_none image k m good there z (transmit pdu payload) refl) l
    starts-only (on_whole (switch_all n x)) bytes l = still (whole-event_none image k m good there z (switch_all n x) refl) l
    starts-only (on_whole (read_count p)) bytes l = still (whole-event_none image k m good there z (read_count p) refl) l
    starts-only (on_whole (clear_count p)) bytes l = still (whole-event_none image k m good there z (clear_count p) refl) l

  runs_first : (m : Machine) (es : List Event) → RunsThrough image k m es → 0 < alive_of image k m
  unfolding RunsThrough
  runs_first m [] r = r
  runs_first m (e ∷ es) (l, r) = l

  -- A RUN after which it runs: it ran all the time, or it was started in the run and has run since
  pub running-since : (m : Machine) → Good image m → (es : List Event) → RunBytes es → 0 < alive_of image k (after_run image m es)
      → RunsThrough image k m es ⊎ StartedIn image k m es
  unfolding after_run RunsThrough
  running-since m good [] bytes l = inl l
  running-since m good (e ∷ es) (b, bs) l = go (running-since (after_event image e m) (event_good image m good e b) es bs l) (ℕ_discrete (alive_of image k m) 0)
    where
      go : RunsThrough image k (after_event image e m) es ⊎ StartedIn image k (after_event image e m) es → Dec (alive_of image k m ≡ 0)
          → ((0 < alive_of image k m) × RunsThrough image k (after_event image e m) es) ⊎ StartedIn image k m (e ∷ es)
      go (inr s) d = inr (started_later m e es s)
      go (inl r) (yes z) = inr (started_here m e es (starts-only m good z e b (runs_first (after_event image e m) es r)) r)
      go (inl r) (no ne) = inl (omega (arith, ne), r)

  -- 4. LET GO BY ITS TIMER ONLY WHEN A DATAGRAM HAD REPLACED A WILDCARD, and the timer has run since
  pub let_go_only : (m : Machine) → Good image m → alive_of image k m ≡ 0 → (es : List Event) → RunBytes es
      → expires (config_of image k) (its_record image k (after_run image m es)) ≡ true → StartedIn image k m es
  let_go_only m good z es bytes e =
      go (running-since m good es bytes (omega (arith, (ended_by (config_of image k) (its_record image k (after_run image m es)) e).0)))
    where
      go : RunsThrough image k m es ⊎ StartedIn image k m es → StartedIn image k m es
      go (inl r) = absurd (omega (arith, z, runs_first m es r))
      go (inr s) = s

-- A FRESH MACHINE has no timer that runs
fresh_none : (image : List ℕ) (n : ℕ) (cs : List Connection) (k : ℕ) → (get_or (each (fresh_at image) n cs) k zero_record).watch.alive ≡ 0
fresh_none image n [] k = refl
fresh_none image n (c ∷ cs) zero = refl
fresh_none image n (c ∷ cs) (suc k) = fresh_none image (suc n) cs k

pub fresh-alive : (image rx tx : List ℕ) (k : ℕ) → alive_of image k (machine (fresh_state image) rx tx) ≡ 0
unfolding fresh_state
fresh-alive image rx tx k = fresh_none image 0 (replicate 16 zero_record) k

pub fresh_let_go_only : (image : List ℕ) → check_table image ≡ Ok tt → (rx tx : List ℕ) → length rx ≡ 23424 → length tx ≡ 23552
    → (k : ℕ) → k < rows_of image Connections → (es : List Event) → RunBytes es
    → expires (config_of image k) (its_record image k (after_run image (machine (fresh_state image) rx tx) es)) ≡ true
    → StartedIn image k (machine (fresh_state image) rx tx) es
fresh_let_go_only image accepted rx tx a b k there =
    let_go_only image k there (machine (fresh_state image) rx tx) (fresh_good image accepted rx tx a b) (fresh-alive image rx tx k)
