-- A SEGMENT EVENT: the caller's takes over a segment until all is read. What they leave, and what they hand out, is the world's
-- segment event.
use Prim.Native.Nat.{ℕ, zero, suc, ◌-◌, ◌≤◌, ◌<◌}
use mathlib.Core.Path.{◌≡◌, refl, sym, ap, ap₂, ◌∙◌, subst}
use mathlib.Core.Bool.{Bool, true, cond}
use mathlib.Core.List.{List, [], ◌∷◌, ◌++◌, append-nil}
use native.Mathlib.Omega.{arith}
use lib.ListN.{length}
use Rattle.reading.specs.Feed.{Routes, Cell, Out, emit, Took, take_b, Ran, joined, takes}
use Rattle.reading.proofs.Cut.{emit-append, take_less}
use Rattle.reading_lengths.specs.Listed.{Bytes}
use Rattle.reading_lengths.proofs.Bytes.{bytes_drop}
use Rattle.table_layout.specs.Layout.{body_of}
use Rattle.table_layout.specs.declared.Kind.TheVariants.{Route as RouteBody}
use Rattle.receive_route.specs.Route.{lookup_of}
use Rattle.model.specs.World.{Held, World, held_at, cell_at, with_cell}
use Rattle.model.specs.Step.{Acted, acted, streamed, routes_at, left}
use Rattle.model.proofs.Cells.{snug_in, snug_take, cell_back}
use Rattle.model_runs.proofs.Same.{left_following}
use Rattle.model_refines.specs.Table.{table_of}
use Rattle.model_refines.specs.Machine.{Machine, seen, taken, after_one, rest_of, told_by, goes_on, after_takes, told_takes}
use Rattle.model_refines.proofs.Take.{Open, took_at, answer_done, rest-took, one_view, cell-is, switches-is, one_told, open_after, held_after}

module _ (image : List ℕ) (k : ℕ) where
  -- the takes as the world has them, on connection k of a machine
  abbrev pub R : Machine → Routes
  R m = routes_at (table_of image) k (held_at (seen m) k)

  abbrev pub C : Machine → Cell
  C m = cell_at (held_at (seen m) k)

  took-is : (m : Machine) (segment : List ℕ) (o : Open image k m) (bytes : Bytes segment) → take_b (R m) (C m) segment ≡ took_at image k m segment o bytes
  took-is m segment o bytes =
      ap₂ (λ (w : ℕ) (c : Cell). take_b (lookup_of (body_of image RouteBody) k w) c segment)
      (switches-is image k m segment o bytes) (cell-is image k m segment o bytes)

  -- what comes after a take, in one
  module _ (m : Machine) (segment : List ℕ) (o : Open image k m) (bytes : Bytes segment) where
    abbrev h : Held
    h = held_at (seen m) k

    abbrev t : Took
    t = take_b (R m) (C m) segment

    abbrev first : Acted
    first = acted (with_cell t.to h) (emit t.out [])

    one : seen (after_one image k m segment) ≡ left (table_of image) (seen m) k first
    one =
        one_view image k m segment o bytes
        ∙ ap (λ (u : Took). left (table_of image) (seen m) k (acted (with_cell u.to h) (emit u.out []))) (sym (took-is m segment o bytes))

    rest-same : rest_of image k m segment ≡ t.rest
    rest-same = rest-took image k m segment o bytes ∙ ap (λ (u : Took). u.rest) (sym (took-is m segment o bytes))

    held_one : held_at (seen (after_one image k m segment)) k ≡ with_cell t.to h
    held_one =
        ap (λ (w : World). held_at w k) (one_view image k m segment o bytes)
        ∙ held_after image k m segment o bytes
        ∙ ap (λ (u : Took). with_cell u.to h) (sym (took-is m segment o bytes))

    cell-one : cell_at (with_cell t.to h) ≡ t.to
    cell-one = cell_back t.to (snug_take (R m) (C m) segment (snug_in h.connection.part h.received))

    -- what the later takes leave and give, from the world's side
    later-takes : (f : ℕ) (rest : List ℕ) → takes (R (after_one image k m segment)) f (C (after_one image k m segment)) rest ≡ takes (R m) f t.to rest
    later-takes f rest =
        ap (λ (x : Held). takes (routes_at (table_of image) k x) f (cell_at x) rest) held_one ∙ ap (λ (c : Cell). takes (R m) f c rest) cell-one

    joined-left : (f : ℕ) (rest : List ℕ) (r : Ran) → takes (R m) f t.to rest ≡ r
        → left (table_of image) (seen (after_one image k m segment)) k
        (streamed (held_at (seen (after_one image k m segment)) k) (takes (R (after_one image k m segment)) f (C (after_one image k m segment)) rest))
        ≡ left (table_of image) (seen m) k (acted (with_cell r.to h) (emit t.out r.list))
    joined-left f rest r e =
        ap₂ (λ (w : World) (x : Held). left (table_of image) w k
        (streamed x (takes (R (after_one image k m segment)) f (C (after_one image k m segment)) rest))) one held_one
        ∙ ap (λ (q : Ran). left (table_of image) (left (table_of image) (seen m) k first) k (streamed (with_cell t.to h) q)) (later-takes f rest ∙ e)
        ∙ sym (left_following (table_of image) (seen m) k first (acted (with_cell r.to h) r.list))
        ∙ ap (λ (l : List Out). left (table_of image) (seen m) k (acted (with_cell r.to h) l)) (emit-append t.out [] r.list)

  -- ALL TAKES: what they leave
  pub takes_view : (f : ℕ) (m : Machine) (segment : List ℕ) → Open image k m → Bytes segment → length segment < f
      → seen (after_takes image k f m segment) ≡ left (table_of image) (seen m) k (streamed (held_at (seen m) k) (takes (R m) f (C m) segment))
  unfolding after_takes takes
  takes_view zero m segment o bytes lt = absurd (omega arith)
  takes_view (suc f) m segment o bytes lt =
      ap₂ (λ (b : Bool) (rest : List ℕ). seen (cond (goes_on image k b rest) (after_takes image k f m' rest) m'))
      (answer_done image k m segment o bytes) (rest-same m segment o bytes)
      ∙ go (λ rest lt' b. takes_view f m' rest (open_after image k m segment o bytes) b lt') t.rest (omega (arith, take_less (R m) (C m) segment))
      (subst Bytes (rest-same m segment o bytes) (bytes_drop (taken image k m segment).read segment bytes))
    where
      m' : Machine
      m' = after_one image k m segment

      t : Took
      t = take_b (R m) (C m) segment

      go : ((rest : List ℕ) → length rest < f → Bytes rest
          → seen (after_takes image k f m' rest) ≡ left (table_of image) (seen m') k (streamed (held_at (seen m') k) (takes (R m') f (C m') rest)))
          → (rest : List ℕ) → length rest ≤ length segment - 1 → Bytes rest
          → seen (cond (goes_on image k true rest) (after_takes image k f m' rest) m')
          ≡ left (table_of image) (seen m) k (streamed (held_at (seen m) k) (joined t.to t.out rest (takes (R m) f t.to rest)))
      go more [] le b = one m segment o bytes
      go more (x ∷ xs) le b = more (x ∷ xs) (omega arith) b ∙ joined-left m segment o bytes f (x ∷ xs) (takes (R m) f t.to (x ∷ xs)) refl

  -- .. and what they hand out
  pub takes_told : (f : ℕ) (m : Machine) (segment : List ℕ) → Open image k m → Bytes segment → length segment < f
      → told_takes image k f m segment ≡ (takes (R m) f (C m) segment).list
  unfolding told_takes takes
  takes_told zero m segment o bytes lt = absurd (omega arith)
  takes_told (suc f) m segment o bytes lt =
      ap₂ (λ (b : Bool) (rest : List ℕ). told_by image k m segment ++ cond (goes_on image k b rest) (told_takes image k f m' rest) [])
      (answer_done image k m segment o bytes) (rest-same m segment o bytes)
      ∙ ap (λ (os : List Out). os ++ cond (goes_on image k true t.rest) (told_takes image k f m' t.rest) [])
      (one_told image k m segment o bytes ∙ ap (λ (u : Took). emit u.out []) (sym (took-is m segment o bytes)))
      ∙ go (λ rest lt' b. takes_told f m' rest (open_after image k m segment o bytes) b lt') t.rest (omega (arith, take_less (R m) (C m) segment))
      (subst Bytes (rest-same m segment o bytes) (bytes_drop (taken image k m segment).read segment bytes))
    where
      m' : Machine
      m' = after_one image k m segment

      t : Took
      t = take_b (R m) (C m) segment

      go : ((rest : List ℕ) → length rest < f → Bytes rest → told_takes image k f m' rest ≡ (takes (R m') f (C m') rest).list)
          → (rest : List ℕ) → length rest ≤ length segment - 1 → Bytes rest
          → emit t.out [] ++ cond (goes_on image k true rest) (told_takes image k f m' rest) []
          ≡ (joined t.to t.out rest (takes (R m) f t.to rest)).list
      go more [] le b = append-nil (emit t.out [])
      go more (x ∷ xs) le b =
          ap (λ (os : List Out). emit t.out [] ++ os) (more (x ∷ xs) (omega arith) b ∙ ap (λ (q : Ran). q.list) (later-takes m segment o bytes f (x ∷ xs)))
          ∙ emit-append t.out [] (takes (R m) f t.to (x ∷ xs)).list
