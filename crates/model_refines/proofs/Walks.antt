-- A STEP OF A WALK over a datagram: what the entry point leaves is the world's step: one drop more at most.
use Prim.Native.Nat.{ℕ}
use mathlib.Core.Path.{◌≡◌, refl, sym, ap, ◌∙◌}
use mathlib.Core.Bool.{Bool, true, false, cond, not, ◌&&◌}
use mathlib.Core.List.{List, []}
use lib.Dec.{ltb}
use lib.Seq.{set-get_or}
use borrow.Author.Tests.{not-true}
use Rattle.lists.proofs.Both.{and_left, and_right}
use Rattle.table_layout.specs.Layout.{rows_of, body_of}
use Rattle.table_layout.specs.declared.Kind.TheVariants.{Connection as Connections, Route as Routes}
use Rattle.connection.specs.declared.Connection.{Connection}
use Rattle.connection.specs.Connection.{zero_record}
use Rattle.state.specs.declared.State.{State}
use Rattle.state.specs.State.{record_at, with_record}
use Rattle.state.specs.Fresh.{config_of}
use Rattle.reading.specs.Feed.{fine, drops}
use Rattle.reading_walk.specs.Walk.{Found, the_end, a_pdu, a_drop, walk_at, outs_told}
use Rattle.receive_route.specs.Route.{lookup_of}
use Rattle.receive_datagram.specs.Datagram.{walk_outcome, walked_of}
use Rattle.gate.specs.Lent.{Loan, sizes}
use Rattle.gate.specs.Gate.{Passed}
use Rattle.entry_receive.specs.Answer.{is_done}
use Rattle.entry_receive.specs.Walk.{count_walk, walk_on, walk_allowed, walk_answer, walk_of}
use Rattle.model.specs.World.{Held, World, held_at, view_of}
use Rattle.model.specs.Events.{walk, Whole, on}
use Rattle.connection.specs.Event.{receiving}
use Rattle.model.specs.Step.{Acted, count_after, acted, does, acts, acts_at, left, step}
use Rattle.model.proofs.View.{view_at}
use Rattle.receive_datagram.specs.declared.Outcome.{Outcome as Step}
use Rattle.receive_datagram.specs.declared.Outcome.TheVariants.{End}
use Rattle.model_refines.specs.Table.{table_of}
use Rattle.model_refines.specs.Run.{told_walk}
use Rattle.model_refines.proofs.Left.{drops_of, view_left, left-nothing}
use Rattle.model_refines.proofs.Answered.{done_is}

-- the count after it
count-is : (f : Found) (d : List ℕ) (s : State) → count_walk (walk_outcome f) s ≡ drops_of false (drops (outs_told d f [])) s
unfolding drops count_after
count-is the_end d s = refl
count-is (a_pdu r p n i) d s = refl
count-is (a_drop k i n) d s = refl

module _ (l : Loan) (k : ℕ) (d : List ℕ) (place : ℕ) (passed : Passed (sizes l)) (whole : Whole → World → World) where
  abbrev image : List ℕ
  image = l.image

  abbrev s : State
  s = l.state

  abbrev rx : List ℕ
  rx = l.rx

  abbrev tx : List ℕ
  tx = l.tx

  abbrev w : World
  w = view_of s rx tx

  abbrev allowed : Bool
  allowed = walk_allowed image k d place

  abbrev found : Found
  found = (walk_at (lookup_of (body_of image Routes) k (record_at s k).switches) d place).found

  -- made, or refused
  abbrev readable : Bool
  readable = ltb k (rows_of image Connections) && (allowed && receiving (record_at s k))

  is-done : is_done (walk_answer (sizes l) k d place) ≡ readable
  is-done = done_is (sizes l) k allowed passed

  walk-state : (b : Bool) → readable ≡ b → (walk_of (sizes l) k d place).state ≡ cond b (drops_of false (drops (outs_told d found [])) s) s
  unfolding walk_of walk_on walked_of
  walk-state true e = rw (is-done ∙ e) (count-is found d s)
  walk-state false e = rw (is-done ∙ e)

  -- the world's side
  seen_c : (held_at w k).connection ≡ record_at s k
  seen_c = ap (λ (h : Held). h.connection) (view_at s rx tx k)

  acts_made : readable ≡ true → acts (table_of image) k (walk d place) (held_at w k) ≡ acted (held_at w k) (outs_told d found [])
  unfolding acts does
  acts_made e =
      rw (and_left (ltb k (rows_of image Connections)) _ e, seen_c, and_right (ltb k (rows_of image Connections)) _ e)

  acts-refused : (t : Bool) → ltb k (rows_of image Connections) ≡ t → (t && (allowed && receiving (record_at s k))) ≡ false
      → acts (table_of image) k (walk d place) (held_at w k) ≡ acted (held_at w k) []
  unfolding acts does
  acts-refused true p e = rw (p, seen_c, e)
  acts-refused false p e = rw p

  -- a drop more, and the records as they were
  dropped_view : (config_of image k).tcp ≡ false
      → view_of (drops_of false (drops (outs_told d found [])) s) rx tx ≡ left (table_of image) w k (acted (held_at w k) (outs_told d found []))
  dropped_view udp =
      let n : ℕ = drops (outs_told d found []) in
      ap (λ (l : List Connection). view_of
      (record { connections = l; udp_drops = (drops_of false n s).udp_drops; tcp_drops = (drops_of false n s).tcp_drops }) rx tx)
      (sym (set-get_or s.connections k zero_record))
      ∙ ap (λ (b : Bool). view_of (with_record k (record_at s k) (drops_of b n s)) rx tx) (sym udp)
      ∙ view_left (table_of image) s rx tx rx tx k (λ j ne. refl) (λ j ne. refl) (record_at s k) (outs_told d found [])
      ∙ ap (λ (h : Held). left (table_of image) w k (acted h (outs_told d found []))) (sym (view_at s rx tx k))

  pub walk_view : view_of (walk_of (sizes l) k d place).state rx tx ≡ step (table_of image) whole w (on k (walk d place))
  unfolding step
  walk_view = go readable refl
    where
      go : (b : Bool) → readable ≡ b
          → view_of (walk_of (sizes l) k d place).state rx tx ≡ left (table_of image) w k (acts (table_of image) k (walk d place) (held_at w k))
      go true e =
          let a : allowed ≡ true = and_left allowed _ (and_right (ltb k (rows_of image Connections)) _ e) in
          ap (λ (t : State). view_of t rx tx) (walk-state true e)
          ∙ dropped_view (not-true (config_of image k).tcp (and_left (not (config_of image k).tcp) _ a))
          ∙ ap (left (table_of image) w k) (sym (acts_made e))
      go false e =
          ap (λ (t : State). view_of t rx tx) (walk-state false e)
          ∙ sym (left-nothing (table_of image) w k)
          ∙ ap (left (table_of image) w k) (sym (acts-refused (ltb k (rows_of image Connections)) refl e))

  -- WHAT IT HANDS OUT: no piece is in it
  told_found : (f : Found) → fine (told_walk d (walk_outcome f)) ≡ outs_told d f []
  unfolding fine
  told_found the_end = refl
  told_found (a_pdu r p n i) = refl
  told_found (a_drop q i n) = refl

  walk-out : (b : Bool) → readable ≡ b → (walk_of (sizes l) k d place).outcome ≡ cond b (walk_outcome found) End
  unfolding walk_of walk_on walked_of
  walk-out true e = rw (is-done ∙ e)
  walk-out false e = rw (is-done ∙ e)

  pub walk_told : fine (told_walk d (walk_of (sizes l) k d place).outcome) ≡ (acts_at (table_of image) w k (walk d place)).list
  unfolding fine
  walk_told = go readable refl
    where
      go : (b : Bool) → readable ≡ b → fine (told_walk d (walk_of (sizes l) k d place).outcome) ≡ (acts_at (table_of image) w k (walk d place)).list
      go true e = ap (λ (o : Step). fine (told_walk d o)) (walk-out true e) ∙ told_found found ∙ ap (λ (a : Acted). a.list) (sym (acts_made e))
      go false e = ap (λ (o : Step). fine (told_walk d o)) (walk-out false e)
          ∙ ap (λ (a : Acted). a.list) (sym (acts-refused (ltb k (rows_of image Connections)) refl e))
