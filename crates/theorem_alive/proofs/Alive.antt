-- WHEN A SILENT PEER IS LET GO: at the last tick of its limit and not before (`let_go_exactly`); after a further datagram the limit begins again
-- (`let_go_again`); with the mark it is never let go (`marked_never`).
use Rattle.std.proofs.Common.{Ok}
use Prim.Native.Nat.{ℕ, ◌+◌, ◌-◌, ◌<◌}
use mathlib.Core.Path.{◌≡◌, refl, sym, ap, ◌∙◌, subst}
use mathlib.Core.Bool.{Bool, true, false, ◌||◌, true≢false}
use mathlib.Core.List.{List, [], ◌∷◌}
use native.Mathlib.Omega.{arith}
use native.Mathlib.Decide.{ℕ_discrete}
use lib.Dec.{ltb}
use borrow.Author.Tests.{ne_eqb}
use Rattle.table_layout.specs.Layout.{rows_of}
use Rattle.table_layout.specs.declared.Kind.TheVariants.{Connection as Connections}
use Rattle.table_rows.specs.Rows.{group_of, connection_of}
use Rattle.connection.specs.declared.Config.{Config}
use Rattle.connection.specs.declared.Remote.{Remote}
use Rattle.connection.specs.Connection.{wildcard}
use Rattle.state.specs.Fresh.{config_of}
use Rattle.gate.specs.Lent.{Lent}
use Rattle.entry_arrivals.specs.Arrivals.{arrival_of, datagram_of}
use Rattle.model.specs.Events.{datagram, accept, tick, transmit, switch_all, read_count, clear_count, Event, on, on_whole}
use Rattle.model_runs.specs.Streams.{EventBytes, RunBytes}
use Rattle.model_refines.specs.Machine.{Machine, lent_to}
use Rattle.model_refines.specs.Run.{after_event, after_run, Good}
use Rattle.model_refines.proofs.Good.{event_good}
use Rattle.theorems.proofs.Runs.{run_good}
use Rattle.theorem_alive.specs.Alive.{Watched, LetGo, ticks_of, ticks_in, its_record, Breaks, Silent, LetGoAt}
use Rattle.theorem_alive.proofs.Record.{tick-watched, tick-ends, met-watched, wild_starts, running-starts}
use Rattle.theorem_alive.proofs.Events.{met_reason, ticked, given, silent_event}

-- an event that has a tick is the tick
is-tick : (e : Event) → (ticks_of e ≡ 0 → ⊥) → e ≡ on_whole tick
is-tick (on i e) calm = absurd (calm refl)
is-tick (on_whole (datagram group source)) calm = absurd (calm refl)
is-tick (on_whole (accept group source)) calm = absurd (calm refl)
is-tick (on_whole tick) calm = refl
is-tick (on_whole (transmit pdu payload)) calm = absurd (calm refl)
is-tick (on_whole (switch_all n x)) calm = absurd (calm refl)
is-tick (on_whole (read_count p)) calm = absurd (calm refl)
is-tick (on_whole (clear_count p)) calm = absurd (calm refl)

-- a datagram is answered with UDP connections alone, without close wanted
datagram-udp : (l : Lent) (group : ℕ) (source : Remote) (k : ℕ) → (arrival_of l false group source).answer ≡ Ok k → (config_of l.image k).tcp ≡ false
unfolding config_of
datagram-udp l group source k e =
    let r = met_reason l false group source k e in
    let p : (group_of l.image (connection_of l.image k).group).protocol ≡ 1 =
    ap (λ (i : ℕ). (group_of l.image i).protocol) r.1.matching.its ∙ r.0.protocol in
    ne_eqb (group_of l.image (connection_of l.image k).group).protocol 2 (λ q. omega (arith, p, q))

module _ (image : List ℕ) (k : ℕ) (there : k < rows_of image Connections) (udp : (config_of image k).tcp ≡ false) where
  abbrev g : Config
  g = config_of image k

  -- ONE EVENT
  one-event : (m : Machine) → Good image m → (r : Remote) (b : Bool) (n : ℕ) → Watched r b n (its_record image k m) → (e : Event) → EventBytes e
      → (Breaks image k m e → ⊥)
      → (b ≡ false → ticks_of e < n) → Watched r b (n - ticks_of e) (its_record image k (after_event image e m))
  one-event m good r b n w e bytes calm more = go (ℕ_discrete (ticks_of e) 0)
    where
      go : Dec (ticks_of e ≡ 0) → Watched r b (n - ticks_of e) (its_record image k (after_event image e m))
      go (yes z) =
          let same : n ≡ n - ticks_of e = omega (arith, z) in
          subst (λ (i : ℕ). Watched r b i (its_record image k (after_event image e m))) same (silent_event image k m good there udp r b n w e bytes calm z)
      go (no nz) =
          let is = is-tick e nz in
          let one : ticks_of e ≡ 1 = ap ticks_of is in
          let last : b ≡ false → 1 < n = λ f. let l = more f in omega (arith, l, one) in
          subst (λ (i : ℕ). Watched r b (n - i) (its_record image k (after_event image e m))) (sym one)
          (subst (λ (x : Event). Watched r b (n - 1) (its_record image k (after_event image x m))) (sym is)
          (subst (Watched r b (n - 1)) (sym (ticked image k m good there)) (tick-watched g udp r b n (its_record image k m) w last)))

  -- A SILENT RUN lowers the timer by its ticks, and no more
  pub silent_run : (m : Machine) → Good image m → (r : Remote) (b : Bool) (n : ℕ) → Watched r b n (its_record image k m) → (es : List Event) → RunBytes es
      → Silent image k m es
      → (b ≡ false → ticks_in es < n) → Watched r b (n - ticks_in es) (its_record image k (after_run image m es))
  unfolding after_run Silent ticks_in
  silent_run m good r b n w [] bytes s more =
      let same : n ≡ n - 0 = omega arith in
      subst (λ (i : ℕ). Watched r b i (its_record image k m)) same w
  silent_run m good r b n w (e ∷ es) (x, xs) (calm, s) more =
      let first : b ≡ false → ticks_of e < n = λ f. let l = more f in omega (arith, l) in
      let later : b ≡ false → ticks_in es < n - ticks_of e = λ f. let l = more f in omega (arith, l) in
      let sum : n - ticks_of e - ticks_in es ≡ n - (ticks_of e + ticks_in es) = omega arith in
      subst (λ (i : ℕ). Watched r b i (its_record image k (after_run image (after_event image e m) es))) sum
      (silent_run (after_event image e m) (event_good image m good e x) r b (n - ticks_of e) (one-event m good r b n w e x calm first) es xs s later)

  -- so a watched record without the mark is let go at the nth tick, and not before
  pub let_go_at : (m : Machine) → Good image m → (r : Remote) (n : ℕ) → Watched r false n (its_record image k m) → (es : List Event) → RunBytes es
      → Silent image k m es
      → LetGoAt image k g r n m es
  let_go_at m good r n w es bytes s =
      record {
        before = λ l. silent_run m good r false n w es bytes s (λ _. l);
        at = λ e.
            let l : ticks_in es < n = omega (arith, e) in
            let one : n - ticks_in es ≡ 1 = omega (arith, e) in
            let m' = after_run image m es in
            subst (LetGo g (its_record image k m')) (sym (ticked image k m' (run_good image m es bytes good) there))
            (tick-ends g udp r false (n - ticks_in es) (its_record image k m') (silent_run m good r false n w es bytes s (λ _. l)) refl one);
      }

  -- WITH THE MARK it is never let go: it stays online with its peer, and the timer only stops
  pub marked_never : (m : Machine) → Good image m → (r : Remote) (n : ℕ) → Watched r true n (its_record image k m) → (es : List Event) → RunBytes es
      → Silent image k m es
      → Watched r true (n - ticks_in es) (its_record image k (after_run image m es))
  marked_never m good r n w es bytes s = silent_run m good r true n w es bytes s (λ f. absurd (true≢false f))

-- A DATAGRAM that connection k is answered with leaves it watched with the row's limit, where it replaced a wildcard or the timer ran
module _ (image : List ℕ) (k : ℕ) (there : k < rows_of image Connections) (m : Machine) (good : Good image m) (group : ℕ) (source : Remote)
    (is : (datagram_of (lent_to image m) group source).answer ≡ Ok k) where
  abbrev after : Machine
  after = after_event image (on_whole (datagram group source)) m

  abbrev limit : ℕ
  limit = (config_of image k).alive

  pub its-udp : (config_of image k).tcp ≡ false
  its-udp = datagram-udp (lent_to image m) group source k is

  after_good : Good image after
  after_good = event_good image m good (on_whole (datagram group source)) tt

  watched-after : (b : Bool) → (its_record image k m).watch.remote_set ≡ b
      → (wildcard (its_record image k m).remote || ltb 0 (its_record image k m).watch.alive) ≡ true
      → Watched source b limit (its_record image k after)
  watched-after b mark starts =
      subst (Watched source b limit) (sym (given image k m good there group source is))
      (met-watched (config_of image k) source b (its_record image k m) starts (met_reason (lent_to image m) false group source k is).1.matching.stays mark)

  -- 1. IT REPLACES A WILDCARD: let go at exactly the tick with the limit's number, counted from it, and not before
  pub let_go_exactly : wildcard (its_record image k m).remote ≡ true → (its_record image k m).watch.remote_set ≡ false → (es : List Event) → RunBytes es
      → Silent image k after es
      → LetGoAt image k (config_of image k) source limit after es
  let_go_exactly wild mark es bytes s =
      let_go_at image k there its-udp after after_good source limit (watched-after false mark (wild_starts (its_record image k m) wild)) es bytes s

  -- 3. with the mark: never
  pub let_go_never : wildcard (its_record image k m).remote ≡ true → (its_record image k m).watch.remote_set ≡ true → (es : List Event) → RunBytes es
      → Silent image k after es
      → Watched source true (limit - ticks_in es) (its_record image k (after_run image after es))
  let_go_never wild mark es bytes s =
      marked_never image k there its-udp after after_good source limit (watched-after true mark (wild_starts (its_record image k m) wild)) es bytes s

  -- 2. IT COMES WHILE THE TIMER RUNS: the limit begins again with it
  pub let_go_again : (r : Remote) (n : ℕ) → Watched r false n (its_record image k m) → 0 < n → (es : List Event) → RunBytes es → Silent image k after es
      → LetGoAt image k (config_of image k) source limit after es
  let_go_again r n w l es bytes s =
      let_go_at image k there its-udp after after_good source limit
      (watched-after false w.marked (running-starts (its_record image k m) (omega (arith, l, w.alive)))) es bytes s

-- 2, in one run: a datagram starts the timer, silent events es with fewer ticks than the limit follow, then a second datagram, then silent events fs
module _ (image : List ℕ) (k : ℕ) (there : k < rows_of image Connections) (m : Machine) (good : Good image m) (group : ℕ) (source : Remote)
    (es : List Event) (again : ℕ) (other : Remote) where
  abbrev started : Machine
  started = after_event image (on_whole (datagram group source)) m

  abbrev waited : Machine
  waited = after_run image started es

  abbrev restarted : Machine
  restarted = after_event image (on_whole (datagram again other)) waited

  pub heard-twice : (datagram_of (lent_to image m) group source).answer ≡ Ok k → wildcard (its_record image k m).remote ≡ true
      → (its_record image k m).watch.remote_set ≡ false → RunBytes es → Silent image k started es → ticks_in es < (config_of image k).alive
      → (datagram_of (lent_to image waited) again other).answer ≡ Ok k → (fs : List Event) → RunBytes fs → Silent image k restarted fs
      → LetGoAt image k (config_of image k) other (config_of image k).alive restarted fs
  heard-twice is wild mark bytes s few is' fs bytes' s' =
      let w = (let_go_exactly image k there m good group source is wild mark es bytes s).before few in
      let good' = run_good image started es bytes (event_good image m good (on_whole (datagram group source)) tt) in
      let_go_again image k there waited good' again other is' source ((config_of image k).alive - ticks_in es) w (omega (arith, few)) fs bytes' s'
