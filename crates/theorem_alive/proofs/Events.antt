-- EVENTS OF THE MACHINE, seen from one connection's record: a tick, an arrival, and every event that leaves the silence.
use Rattle.std.proofs.Common.{Result, ℕ, Ok, Err}
use Prim.Native.Nat.{ℕ, suc, ◌<◌}
use mathlib.Core.Path.{◌≡◌, refl, sym, ap, ◌∙◌, subst}
use mathlib.Core.Bool.{Bool, true, false, false≢true}
use mathlib.Core.List.{List}
use native.Mathlib.Nat.{zero-add}
use native.Mathlib.Omega.{arith}
use lib.ListN.{length}
use lib.Seq.{get_or-set_same}
use borrow.Author.Tests.{eq-eqb}
use Rattle.lists.proofs.Each.{one_at}
use Rattle.law_lists.proofs.Each.{each-own}
use Rattle.table_layout.specs.Layout.{rows_of}
use Rattle.table_layout.specs.declared.Kind.TheVariants.{Connection as Connections}
use Rattle.table_rows.specs.Rows.{group_of, connection_of}
use Rattle.connection.specs.declared.Config.{Config}
use Rattle.connection.specs.declared.Connection.{Connection}
use Rattle.connection.specs.declared.Remote.{Remote}
use Rattle.connection.specs.declared.Event.{Event as Change}
use Rattle.connection.specs.Connection.{zero_record, with_send, with_switches, met_of, switch_of, switched_of, tick_of}
use Rattle.connection.specs.Sound.{Sound}
use Rattle.state.specs.State.{record_at}
use Rattle.state.specs.Fresh.{config_of}
use Rattle.gate.specs.Lent.{Lent}
use Rattle.gate.proofs.Pass.{passed_gate, rows_in-sixteen}
use Rattle.gate.proofs.Records.{row-sound}
use Rattle.select.specs.declared.NotMet.TheVariants.{Refused, Unmatched}
use Rattle.entry_arrivals.specs.Arrivals.{arrival_of}
use Rattle.entry_ticks.specs.Tick.{tick_at, ticked_to, tick_event}
use Rattle.law_keeps.proofs.Rows.{sound-row-at}
use Rattle.model.specs.World.{Held, World, blank, held_at}
use Rattle.model.specs.Events.{Own, change, Whole, datagram, accept, tick, transmit, switch_all, read_count, clear_count, Event, on, on_whole}
use Rattle.model.specs.Step.{acts, acts_at, step}
use Rattle.model.proofs.View.{view_record}
use Rattle.model_runs.specs.Streams.{EventBytes}
use Rattle.model_refines.specs.Table.{table_of}
use Rattle.model_refines.specs.Whole.{whole_of}
use Rattle.model_refines.specs.Machine.{Machine, lent_to, seen}
use Rattle.model_refines.specs.Run.{after_whole, after_event, Good}
use Rattle.model_refines.proofs.Becomes.{Acts, acts-idle, acts-fed, acts_changed, acts-took, acts-is, Becomes, becomes_itself}
use Rattle.model_refines.proofs.Becomes.{as_it_was, becomes-met, becomes-ticked, becomes-switched, becomes-sent, becomes, arrives}
use Rattle.model_refines.proofs.Steps.{event_view}
use Rattle.theorem_match.specs.Match.{Arrives, shut, no_group, not_welcome, none_matches, meets, Welcome, BestMatch}
use Rattle.theorem_match.proofs.Match.{arrival_answer}
use Rattle.theorem_records.proofs.Records.{arrival_leaves}
use Rattle.theorem_records.proofs.Untouched.{arrival_others}
use Rattle.theorem_alive.specs.Alive.{Watched, ticks_of, its_record, Breaks, datagram_given, close_asked, waiting_taken}
use Rattle.theorem_alive.proofs.Record.{step-watched, besides_watched, event_none, take_none}
use Rattle.select.specs.declared.NotMet.{NotMet}

-- WHO IS ANSWERED: the number of the connection, and 1 more; 0 for nobody
pub whom : Result ℕ NotMet → ℕ
whom (Ok n) = suc n
whom (Err (Refused r)) = 0
whom (Err Unmatched) = 0

pub whom_is : (x : Result ℕ NotMet) (k : ℕ) → whom x ≡ suc k → x ≡ Ok k
unfolding whom
whom_is (Ok n) k e = let q : n ≡ k = omega (arith, e) in ap Ok q
whom_is (Err (Refused r)) k e = absurd (omega (arith, e))
whom_is (Err Unmatched) k e = absurd (omega (arith, e))

pub whom_met : (k : ℕ) → whom (Ok k) ≡ suc k
unfolding whom
whom_met k = refl

-- AN ARRIVAL THAT IS ANSWERED WITH CONNECTION k has its reason
module _ (l : Lent) (a : Bool) (group : ℕ) (source : Remote) (k : ℕ) where
  reason : (x : Result ℕ NotMet) → Arrives l a group source x → whom x ≡ suc k → Welcome l a group source × BestMatch l a group source k
  unfolding whom
  reason _ (shut r g) e = absurd (omega (arith, e))
  reason _ (no_group g h) e = absurd (omega (arith, e))
  reason _ (not_welcome g h n) e = absurd (omega (arith, e))
  reason _ (none_matches g h w n) e = absurd (omega (arith, e))
  reason _ (meets j g h w b) e = let q : j ≡ k = omega (arith, e) in (w, subst (BestMatch l a group source) q b)

  pub met_reason : (arrival_of l a group source).answer ≡ Ok k → Welcome l a group source × BestMatch l a group source k
  met_reason e = reason (Ok k) ((arrival_answer l a group source (Ok k)).0 e) (whom_met k)

-- AN ACCEPT IS ANSWERED WITH TCP CONNECTIONS ALONE
pub accept-tcp : (l : Lent) (group : ℕ) (source : Remote) (k : ℕ) → (arrival_of l true group source).answer ≡ Ok k → (config_of l.image k).tcp ≡ true
unfolding config_of
accept-tcp l group source k e =
    let r = met_reason l true group source k e in
    eq-eqb (group_of l.image (connection_of l.image k).group).protocol 2
    (ap (λ (i : ℕ). (group_of l.image i).protocol) r.1.matching.its ∙ r.0.protocol)

module _ (image : List ℕ) (k : ℕ) (m : Machine) (good : Good image m) (there : k < rows_of image Connections) where
  abbrev g : Config
  g = config_of image k

  abbrev c : Connection
  c = record_at m.state k

  pub inside : k < length m.state.connections
  inside = omega (arith, there, good.sixteen, rows_in-sixteen (lent_to image m) (passed_gate (lent_to image m) good.passed))

  pub sound : Sound g c
  sound = row-sound image k c (sound-row-at image m.state.connections k good.passed.sound there) there

  -- A TICK is the record's tick
  pub ticked : record_at (after_event image (on_whole tick) m).state k ≡ tick_of g c
  unfolding after_event after_whole tick_event ticked_to
  ticked =
      rw (passed_gate (lent_to image m) good.passed)
      (each-own (tick_at image) zero_record 0 (rows_of image Connections) k m.state.connections there inside
      ∙ ap (λ (n : ℕ). tick_of (config_of image n) c) (zero-add k))

  -- AN ARRIVAL that is answered with it meets it
  pub met : (a : Bool) (group : ℕ) (source : Remote) → (arrival_of (lent_to image m) a group source).answer ≡ Ok k
      → record_at (arrival_of (lent_to image m) a group source).state k ≡ met_of g source c
  met a group source e =
      ap (λ s. record_at s k) (arrival_leaves (lent_to image m) a group source k e)
      ∙ get_or-set_same m.state.connections k (met_of g source c) zero_record inside

  pub given : (group : ℕ) (source : Remote) → (arrival_of (lent_to image m) false group source).answer ≡ Ok k
      → record_at (after_event image (on_whole (datagram group source)) m).state k ≡ met_of g source c
  unfolding after_event after_whole
  given group source e = met false group source e

  pub not_given : (group : ℕ) (source : Remote) → ((arrival_of (lent_to image m) false group source).answer ≡ Ok k → ⊥)
      → record_at (after_event image (on_whole (datagram group source)) m).state k ≡ c
  unfolding after_event after_whole
  not_given group source calm = arrival_others (lent_to image m) false group source k calm

  pub accepted : (group : ℕ) (source : Remote) → (arrival_of (lent_to image m) true group source).answer ≡ Ok k
      → record_at (after_event image (on_whole (accept group source)) m).state k ≡ met_of g source c
  unfolding after_event after_whole
  accepted group source e = met true group source e

  pub not_accepted : (group : ℕ) (source : Remote) → ((arrival_of (lent_to image m) true group source).answer ≡ Ok k → ⊥)
      → record_at (after_event image (on_whole (accept group source)) m).state k ≡ c
  unfolding after_event after_whole
  not_accepted group source calm = arrival_others (lent_to image m) true group source k calm

  -- EVERY OTHER EVENT, by the world's step
  pub after_record : (e : Event) → EventBytes e
      → record_at (after_event image e m).state k ≡ (held_at (step (table_of image) (whole_of image) (seen m) e) k).connection
  after_record e b =
      sym (view_record (after_event image e m).state (after_event image e m).rx (after_event image e m).tx k)
      ∙ ap (λ (w : World). (held_at w k).connection) (event_view image m good e b)

  seen_c : (held_at (seen m) k).connection ≡ c
  seen_c = view_record m.state m.rx m.tx k

  -- an event of a connection, by what it makes of the record
  pub own_keeps : (P : Connection → Type 0) (i : ℕ) (e : Own) → EventBytes (on i e) → P c → (i ≡ k → (d : Connection) → Acts g c e d → P d)
      → P (record_at (after_event image (on i e) m).state k)
  unfolding step
  own_keeps P i e b p q =
      subst P (sym (after_record (on i e) b))
      (one_at blank (seen m).held i k (acts_at (table_of image) (seen m) i e).to (λ (h : Held). P h.connection)
      (λ same.
      subst (λ (j : ℕ). P (acts (table_of image) j e (held_at (seen m) j)).to.connection) (sym same)
      (q same (acts (table_of image) k e (held_at (seen m) k)).to.connection
      (subst (λ (x : Connection). Acts g x e (acts (table_of image) k e (held_at (seen m) k)).to.connection) seen_c
      (acts-is (table_of image) k e (held_at (seen m) k)))))
      (subst P (sym seen_c) p))

-- an event that brings no source, and is no tick
abbrev pub plain : Whole → Bool
plain (datagram group source) = false
plain (accept group source) = false
plain tick = false
plain (transmit pdu payload) = true
plain (switch_all n x) = true
plain (read_count p) = true
plain (clear_count p) = true

plain_brings : (e : Whole) → plain e ≡ true → arrives e ≡ false
plain_brings (datagram group source) p = absurd (false≢true p)
plain_brings (accept group source) p = absurd (false≢true p)
plain_brings tick p = refl
plain_brings (transmit pdu payload) p = refl
plain_brings (switch_all n x) p = refl
plain_brings (read_count q) p = refl
plain_brings (clear_count q) p = refl

-- of the record: as it was, other switches, or other send bytes
pub plain_keeps : (image : List ℕ) (k : ℕ) (m : Machine) → Good image m → k < rows_of image Connections → (P : Connection → Type 0) → P (record_at m.state k)
    → ((d : Connection) → with_send 0 0 false d ≡ with_send 0 0 false (record_at m.state k) → P d) → ((w : ℕ) → P (with_switches w (record_at m.state k)))
    → (e : Whole) → plain e ≡ true → P (record_at (after_event image (on_whole e) m).state k)
unfolding step
plain_keeps image k m good there P p sent switched e is =
    subst P (sym (after_record image k m good there (on_whole e) tt)) (go e (held_at (whole_of image e (seen m)) k) (becomes image k (seen m) e) is)
  where
    same : (held_at (seen m) k).connection ≡ record_at m.state k
    same = view_record m.state m.rx m.tx k

    go : (e : Whole) (h : Held) → Becomes image k (held_at (seen m) k) e h → plain e ≡ true → P h.connection
    go _ _ (becomes_itself e) q = subst P (sym same) p
    go _ _ (as_it_was e) q = subst P (sym same) p
    go _ _ (becomes-met e source a) q = absurd (false≢true (sym (plain_brings e q) ∙ a))
    go _ _ becomes-ticked q = absurd (false≢true q)
    go _ _ (becomes-switched e n x) q = subst (λ (c : Connection). P (switched_of n x c)) (sym same) (switched (switch_of n x (record_at m.state k).switches))
    go _ _ (becomes-sent pdu payload h a) q = sent h.connection (a.besides ∙ ap (with_send 0 0 false) same)

-- EVERY EVENT THAT LEAVES THE SILENCE and is no tick leaves a watched record watched
module _ (image : List ℕ) (k : ℕ) (m : Machine) (good : Good image m) (there : k < rows_of image Connections) (udp : (config_of image k).tcp ≡ false)
    (r : Remote) (b : Bool) (n : ℕ) (w : Watched r b n (its_record image k m)) where
  own-watched : (e : Own) → (Breaks image k m (on k e) → ⊥) → (d : Connection) → Acts (config_of image k) (its_record image k m) e d → Watched r b n d
  own-watched _ calm _ (acts-idle e) = w
  own-watched _ calm _ (acts-fed bytes p) = record { online = w.online; stays = w.stays; peer = w.peer; alive = w.alive; marked = w.marked }
  own-watched _ calm _ (acts_changed e) =
      step-watched (config_of image k) udp r b n (its_record image k m) (sound image k m good there) w e
      (λ is. calm (subst (λ (x : Change). Breaks image k m (on k (change x))) (sym is) close_asked))
  own-watched _ calm _ (acts-took room) = absurd (calm (waiting_taken room))

  same-watched : {d : Connection} → d ≡ its_record image k m → Watched r b n d
  same-watched e = subst (Watched r b n) (sym e) w

  whole-watched : (e : Whole) → plain e ≡ true → Watched r b n (its_record image k (after_event image (on_whole e) m))
  whole-watched =
      plain_keeps image k m good there (Watched r b n) w (λ d e. besides_watched r b n (its_record image k m) d e w)
      (λ x. record { online = w.online; stays = w.stays; peer = w.peer; alive = w.alive; marked = w.marked })

  pub silent_event : (e : Event) → EventBytes e → (Breaks image k m e → ⊥) → ticks_of e ≡ 0 → Watched r b n (its_record image k (after_event image e m))
  silent_event (on i e) bytes calm z =
      own_keeps image k m good there (Watched r b n) i e bytes w (λ same. own-watched e (λ x. calm (subst (λ (j : ℕ). Breaks image k m (on j e)) (sym same) x)))
  silent_event (on_whole (datagram group source)) bytes calm z =
      same-watched (not_given image k m good there group source (λ e. calm (datagram_given group source e)))
  silent_event (on_whole (accept group source)) bytes calm z =
      same-watched (not_accepted image k m good there group source (λ e. false≢true (sym udp ∙ accept-tcp (lent_to image m) group source k e)))
  silent_event (on_whole tick) bytes calm z = absurd (omega (arith, z))
  silent_event (on_whole (transmit pdu payload)) bytes calm z = whole-watched (transmit pdu payload) refl
  silent_event (on_whole (switch_all i x)) bytes calm z = whole-watched (switch_all i x) refl
  silent_event (on_whole (read_count p)) bytes calm z = whole-watched (read_count p) refl
  silent_event (on_whole (clear_count p)) bytes calm z = whole-watched (clear_count p) refl

-- A TIMER THAT DOES NOT RUN is started by no event but a datagram
module _ (image : List ℕ) (k : ℕ) (m : Machine) (good : Good image m) (there : k < rows_of image Connections) (z : (its_record image k m).watch.alive ≡ 0) where
  own_none : (e : Own) (d : Connection) → Acts (config_of image k) (its_record image k m) e d → d.watch.alive ≡ 0
  own_none _ _ (acts-idle e) = z
  own_none _ _ (acts-fed bytes p) = z
  own_none _ _ (acts_changed e) = event_none (config_of image k) (its_record image k m) z e
  own_none _ _ (acts-took room) = take_none (config_of image k) room (its_record image k m) z

  pub own-event_none : (i : ℕ) (e : Own) → EventBytes (on i e) → (its_record image k (after_event image (on i e) m)).watch.alive ≡ 0
  own-event_none i e bytes = own_keeps image k m good there (λ (d : Connection). d.watch.alive ≡ 0) i e bytes z (λ _. own_none e)

  pub whole-event_none : (e : Whole) → plain e ≡ true → (its_record image k (after_event image (on_whole e) m)).watch.alive ≡ 0
  whole-event_none =
      plain_keeps image k m good there (λ (d : Connection). d.watch.alive ≡ 0) z (λ d e. ap (λ (x : Connection). x.watch.alive) e ∙ z) (λ _. z)
