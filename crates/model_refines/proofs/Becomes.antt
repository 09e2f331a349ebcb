-- WHAT AN EVENT MAKES OF A CONNECTION: each way, of its own events and of those of a whole group or module.
use Prim.Native.Nat.{ℕ, zero, suc, ◌+◌}
use mathlib.Core.Path.{◌≡◌, refl, sym, ap, ◌∙◌, subst}
use mathlib.Core.Bool.{Bool, true, false, cond, not, ◌&&◌}
use mathlib.Core.List.{List, [], ◌∷◌}
use native.Mathlib.Omega.{arith}
use lib.Dec.{leb, ltb}
use lib.ListN.{length, get_or, length-map, get_or-map}
use Rattle.table_layout.specs.Layout.{rows_of}
use Rattle.table_layout.specs.declared.Kind.TheVariants.{Connection as Connections}
use Rattle.receive_part.specs.declared.Part.{Part}
use Rattle.connection.specs.declared.Connection.{Connection}
use Rattle.connection.specs.declared.Config.{Config}
use Rattle.connection.specs.declared.Remote.{Remote}
use Rattle.connection.specs.declared.Event.{Event as Change}
use Rattle.connection.specs.Connection.{is_online, zero_record, with_part, with_send, met_of, switched_of, tick_of}
use Rattle.connection.specs.Event.{receiving, step_of}
use Rattle.lists.specs.Each.{each_to}
use Rattle.lists.proofs.Each.{each-length, each_at, one_at}
use Rattle.lists.specs.Fold.{fold_from}
use Rattle.lists.proofs.Fold.{fold_keeps}
use Rattle.table_rows.specs.declared.DestinationRow.{DestinationRow}
use Rattle.table_rows.specs.Rows.{destination_of}
use Rattle.state.specs.declared.State.{State}
use Rattle.state.specs.State.{record_at}
use Rattle.state.specs.Fresh.{config_of}
use Rattle.reading.specs.Feed.{segment_ran as segment_of, finely}
use Rattle.reading_walk.specs.Walk.{walk_at, outs_told}
use Rattle.receive_stream.specs.Stream.{part_from}
use Rattle.select.specs.Choose.{arrive_of}
use Rattle.entry_ticks.specs.Tick.{tick_at, ticked_to}
use Rattle.entry_events.specs.Module.{switch_at, switched_all}
use Rattle.entry_events.specs.Count.{clear_past}
use Rattle.entry_events.proofs.Counts.{clear_records}
use Rattle.send.specs.Verdict.{is_stored}
use Rattle.send.specs.Send.{destinations, check_of, wanted_at}
use Rattle.send_waiting.specs.Waiting.{take_of}
use Rattle.model.specs.World.{Held, World, blank, held_at, cell_at, follow, follow_all, state_of, leaves}
use Rattle.model.specs.Events.{Own, change, segment, walk, take_waiting, Whole, datagram, accept, tick, transmit, switch_all, read_count, clear_count}
use Rattle.model.specs.Step.{Table, acted, streamed, routes_at, does, acts}
use Rattle.model_refines.specs.Send.{with_frame, append_to, store_in, transmit_in}
use Rattle.model_refines.specs.Whole.{whole_of}
use Rattle.model_refines.proofs.Arrivals.{arrive_is, meeting_length, meeting_at}

-- AN EVENT OF ITS OWN: the record is as it was, or has another receive part, or is what the event or the take makes of it
pub data Acts (g : Config) (c : Connection) : Own → Connection → Type 0 where
  acts-idle : (e : Own) → Acts g c e c
  acts-fed : (bytes : List ℕ) (p : Part) → Acts g c (segment bytes) (with_part p c)
  acts_changed : (e : Change) → Acts g c (change e) (step_of e g c).connection
  acts-took : (room : ℕ) → Acts g c (take_waiting room) (take_of g room c)

does-is : (T : Table) (k : ℕ) (e : Own) (h : Held) → Acts (T.config k) h.connection e (does T k e h).to.connection
unfolding does
does-is T k (change e) h = acts_changed e
does-is T k (segment bytes) h = go ((T.config k).tcp && receiving h.connection)
  where
    go : (b : Bool) → Acts (T.config k) h.connection (segment bytes)
        (cond b (streamed h (finely (segment_of (routes_at T k h) (cell_at h) bytes))) (acted h [])).to.connection
    go true = acts-fed bytes (part_from (segment_of (routes_at T k h) (cell_at h) bytes).to)
    go false = acts-idle (segment bytes)
does-is T k (walk d p) h = go (not (T.config k).tcp && leb p (length d) && receiving h.connection)
  where
    go : (b : Bool) → Acts (T.config k) h.connection (walk d p)
        (cond b (acted h (outs_told d (walk_at (routes_at T k h) d p).found [])) (acted h [])).to.connection
    go true = acts-idle (walk d p)
    go false = acts-idle (walk d p)
does-is T k (take_waiting room) h = acts-took room

pub acts-is : (T : Table) (k : ℕ) (e : Own) (h : Held) → Acts (T.config k) h.connection e (acts T k e h).to.connection
unfolding acts
acts-is T k e h = go (ltb k T.rows)
  where
    go : (b : Bool) → Acts (T.config k) h.connection e (cond b (does T k e h) (acted h [])).to.connection
    go true = does-is T k e h
    go false = acts-idle e

-- a transmit changes nothing of it but its send bytes, timer and due mark
pub record Alike (h h' : Held) : Type 0 where
  pub cell : cell_at h' ≡ cell_at h
  pub online : is_online h'.connection.mode ≡ is_online h.connection.mode
  pub besides : with_send 0 0 false h'.connection ≡ with_send 0 0 false h.connection

alike-append : (d : DestinationRow) (payload : List ℕ) (w : World) (k : ℕ) → Alike (held_at w k) (held_at (append_to d payload w) k)
alike-append d payload w k =
    one_at blank w.held d.connection k (with_frame d payload (held_at w d.connection)) (Alike (held_at w k))
    (λ e. subst (λ (i : ℕ). Alike (held_at w k) (with_frame d payload (held_at w i))) (sym e) (record { cell = refl; online = refl; besides = refl }))
    (record { cell = refl; online = refl; besides = refl })

alike_store : (image : List ℕ) (s : State) (pdu : ℕ) (payload : List ℕ) (w v : World) (k i : ℕ) → Alike (held_at w k) (held_at v k)
    → Alike (held_at w k) (held_at (store_in image s pdu payload v i) k)
unfolding store_in
alike_store image s pdu payload w v k i a = go (wanted_at image s pdu payload i)
  where
    go : (b : Bool) → Alike (held_at w k) (held_at (cond b (append_to (destination_of image i) payload v) v) k)
    go true =
        let b = alike-append (destination_of image i) payload v k in
        record { cell = b.cell ∙ a.cell; online = b.online ∙ a.online; besides = b.besides ∙ a.besides }
    go false = a

pub alike-transmit : (image : List ℕ) (pdu : ℕ) (payload : List ℕ) (w : World) (k : ℕ) → Alike (held_at w k) (held_at (transmit_in image pdu payload w) k)
unfolding transmit_in
alike-transmit image pdu payload w k = go (is_stored (check_of image (state_of w) pdu (length payload)))
  where
    same : Alike (held_at w k) (held_at w k)
    same = record { cell = refl; online = refl; besides = refl }

    go : (b : Bool) → Alike (held_at w k) (held_at (cond b (fold_from (store_in image (state_of w) pdu payload) (destinations image) 0 w) w) k)
    go true =
        fold_keeps (store_in image (state_of w) pdu payload) (λ (v : World). Alike (held_at w k) (held_at v k)) (destinations image) 0 w
        (λ i v l u a. alike_store image (state_of w) pdu payload w v k i a) same
    go false = same

-- the record at its place, among as many
pub follow-at : (cs : List Connection) (hs : List Held) (k : ℕ) → length cs ≡ length hs
    → get_or (follow_all cs hs) k blank ≡ follow (get_or cs k zero_record) (get_or hs k blank)
follow-at [] hs k e = refl
follow-at (c ∷ cs) [] k e = absurd (omega arith)
follow-at (c ∷ cs) (h ∷ hs) zero e = refl
follow-at (c ∷ cs) (h ∷ hs) (suc k) e = follow-at cs hs k (omega arith)

-- whether a source arrives
abbrev pub arrives : Whole → Bool
arrives (datagram group source) = true
arrives (accept group source) = true
arrives tick = false
arrives (transmit pdu payload) = false
arrives (switch_all n b) = false
arrives (read_count p) = false
arrives (clear_count p) = false

-- AN EVENT OF A WHOLE GROUP OR MODULE: the record is as it was, met, ticked or switched, and of its held bytes those stay that it still
-- holds; or it is a transmit
pub data Becomes (image : List ℕ) (k : ℕ) (h : Held) : Whole → Held → Type 0 where
  becomes_itself : (e : Whole) → Becomes image k h e h
  as_it_was : (e : Whole) → Becomes image k h e (follow h.connection h)
  becomes-met : (e : Whole) (source : Remote) → arrives e ≡ true → Becomes image k h e (follow (met_of (config_of image k) source h.connection) h)
  becomes-ticked : Becomes image k h tick (follow (tick_of (config_of image k) h.connection) h)
  becomes-switched : (e : Whole) (n : ℕ) (on : Bool) → Becomes image k h e (follow (switched_of n on h.connection) h)
  becomes-sent : (pdu : ℕ) (payload : List ℕ) (h' : Held) → Alike h h' → Becomes image k h (transmit pdu payload) h'

module _ (image : List ℕ) (k : ℕ) (w : World) where
  abbrev h : Held
  h = held_at w k

  -- the record that a state has there
  abbrev By : Whole → Connection → Type 0
  By e c = Becomes image k h e (follow c h)

  by_record : (e : Whole) (f : Connection → Connection) → By e (f h.connection) → By e (f (record_at (state_of w) k))
  by_record e f p = subst (λ (c : Connection). By e (f c)) (sym (get_or-map (λ (x : Held). x.connection) w.held k blank)) p

  by_same : (e : Whole) → By e (record_at (state_of w) k)
  by_same e = by_record e (λ (c : Connection). c) (as_it_was e)

  left : (e : Whole) (s : State) → length s.connections ≡ length (state_of w).connections → By e (record_at s k) → Becomes image k h e (held_at (leaves s w) k)
  left e s l p = subst (Becomes image k h e) (sym (follow-at s.connections w.held k (l ∙ length-map w.held (λ (x : Held). x.connection)))) p

  arrived : (e : Whole) → arrives e ≡ true → (a : Bool) (group : ℕ) (source : Remote)
      → Becomes image k h e (held_at (leaves (arrive_of image (state_of w) a group source).state w) k)
  arrived e is a group source =
      let m = arrive_is image (state_of w) a group source in
      let t : State = (arrive_of image (state_of w) a group source).state in
      left e t (meeting_length image (state_of w) source t m)
      (meeting_at image (state_of w) source t (By e) k m (by_record e (met_of (config_of image k) source) (becomes-met e source is)) (by_same e))

  each : (e : Whole) (f : ℕ → Connection → Connection) (n : ℕ) → By e (f k h.connection) → By e (get_or (each_to f 0 n (state_of w).connections) k zero_record)
  each e f n p =
      let z : k ≡ 0 + k = omega arith in
      each_at zero_record f (By e) 0 n (state_of w).connections k (subst (λ (i : ℕ). By e (f i (record_at (state_of w) k))) z (by_record e (f k) p)) (by_same e)

  pub becomes : (e : Whole) → Becomes image k h e (held_at (whole_of image e w) k)
  unfolding ticked_to switched_all
  becomes (datagram group source) = arrived (datagram group source) refl false group source
  becomes (accept group source) = arrived (accept group source) refl true group source
  becomes tick =
      left tick (ticked_to image (rows_of image Connections) (state_of w)) (each-length (tick_at image) 0 (rows_of image Connections) (state_of w).connections)
      (each tick (tick_at image) (rows_of image Connections) becomes-ticked)
  becomes (transmit pdu payload) = becomes-sent pdu payload (held_at (transmit_in image pdu payload w) k) (alike-transmit image pdu payload w k)
  becomes (switch_all n b) = go (ltb n 32)
    where
      go : (x : Bool) → Becomes image k h (switch_all n b) (held_at (cond x (leaves (switched_all (rows_of image Connections) n b (state_of w)) w) w) k)
      go true =
          left (switch_all n b) (switched_all (rows_of image Connections) n b (state_of w))
          (each-length (switch_at n b) 0 (rows_of image Connections) (state_of w).connections)
          (each (switch_all n b) (switch_at n b) (rows_of image Connections) (becomes-switched (switch_all n b) n b))
      go false = becomes_itself (switch_all n b)
  becomes (read_count p) = becomes_itself (read_count p)
  becomes (clear_count p) =
      left (clear_count p) (clear_past (state_of w) p).state (ap length (clear_records (state_of w) p))
      (subst (λ (l : List Connection). By (clear_count p) (get_or l k zero_record)) (sym (clear_records (state_of w) p)) (by_same (clear_count p)))
