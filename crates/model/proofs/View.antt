-- The view of a state and the lent memories: its records, one of them replaced, and what an event leaves that writes no memory.
use Prim.Native.Nat.{ℕ, zero, suc, ◌+◌, ◌≤◌, ◌<◌}
use mathlib.Core.Path.{◌≡◌, refl, sym, ap, ap₂, ◌∙◌}
use mathlib.Core.List.{List, [], ◌∷◌, map}
use native.Mathlib.Omega.{arith}
use native.Mathlib.Nat.{le_refl}
use lib.ListN.{length, get_or, set, take}
use lib.Seq.{take-take}
use Rattle.connection.specs.declared.Connection.{Connection}
use Rattle.connection.specs.Connection.{zero_record}
use Rattle.lists.specs.Each.{each_to}
use Rattle.state.specs.declared.State.{State}
use Rattle.state.specs.State.{record_at}
use Rattle.state.specs.Memory.{stretch}
use Rattle.model.specs.World.{Held, blank, held_at, held_by, held_of, view_from, view_of, follow, state_of, follow_all, leaves}

-- the records of a view are the state's
records : (rx tx : List ℕ) (k : ℕ) (cs : List Connection) → map (λ (h : Held). h.connection) (view_from rx tx k cs) ≡ cs
records rx tx k [] = refl
records rx tx k (c ∷ cs) = ap (λ (l : List Connection). c ∷ l) (records rx tx (suc k) cs)

pub state_view : (s : State) (rx tx : List ℕ) → state_of (view_of s rx tx) ≡ s
state_view s rx tx = ap (λ (l : List Connection). record { connections = l; udp_drops = s.udp_drops; tcp_drops = s.tcp_drops })
    (records rx tx 0 s.connections)

pub view_length : (rx tx : List ℕ) (k : ℕ) (cs : List Connection) → length (view_from rx tx k cs) ≡ length cs
view_length rx tx k [] = refl
view_length rx tx k (c ∷ cs) = ap suc (view_length rx tx (suc k) cs)

-- one of them, past the last one too
view_get : (rx tx : List ℕ) (k : ℕ) (cs : List Connection) (i : ℕ) → get_or (view_from rx tx k cs) i blank ≡ held_of rx tx (k + i) (get_or cs i zero_record)
view_get rx tx k [] i = refl
view_get rx tx k (c ∷ cs) zero = let e : k ≡ k + 0 = omega arith in ap (λ (j : ℕ). held_of rx tx j c) e
view_get rx tx k (c ∷ cs) (suc i) =
    let e : suc k + i ≡ k + suc i = omega arith in
    view_get rx tx (suc k) cs i ∙ ap (λ (j : ℕ). held_of rx tx j (get_or cs i zero_record)) e

pub view_at : (s : State) (rx tx : List ℕ) (i : ℕ) → held_at (view_of s rx tx) i ≡ held_of rx tx i (get_or s.connections i zero_record)
view_at s rx tx i =
    let e : 0 + i ≡ i = omega arith in
    view_get rx tx 0 s.connections i ∙ ap (λ (j : ℕ). held_of rx tx j (get_or s.connections i zero_record)) e

pub view_record : (s : State) (rx tx : List ℕ) (i : ℕ) → (held_at (view_of s rx tx) i).connection ≡ record_at s i
view_record s rx tx i = ap (λ (h : Held). h.connection) (view_at s rx tx i)

-- ONE CONNECTION: another record there, and memories that differ in its stretches alone
module _ (rx tx rx' tx' : List ℕ) (i : ℕ) (same-rx : (j : ℕ) → (j ≡ i → ⊥) → stretch 1464 j rx' ≡ stretch 1464 j rx)
    (same-tx : (j : ℕ) → (j ≡ i → ⊥) → stretch 1472 j tx' ≡ stretch 1472 j tx) where
  held_same : (j : ℕ) (c : Connection) → (j ≡ i → ⊥) → held_of rx' tx' j c ≡ held_of rx tx j c
  held_same j c ne =
      ap₂ (λ (x y : List ℕ). record { connection = c; received = take (held_by c.part) x; waiting = take c.used y }) (same-rx j ne) (same-tx j ne)

  view_apart : (k : ℕ) (cs : List Connection) → i < k → view_from rx' tx' k cs ≡ view_from rx tx k cs
  view_apart k [] h = refl
  view_apart k (c ∷ cs) h = ap₂ (λ (x : Held) (l : List Held). x ∷ l) (held_same k c (λ e. omega arith)) (view_apart (suc k) cs (omega arith))

  view_write : (k : ℕ) (cs : List Connection) (n : ℕ) (c : Connection) → k + n ≡ i
      → view_from rx' tx' k (set cs n c) ≡ set (view_from rx tx k cs) n (held_of rx' tx' i c)
  view_write k [] n c e = refl
  view_write k (x ∷ cs) zero c e =
      let q : k ≡ i = omega arith in
      ap₂ (λ (y : Held) (l : List Held). y ∷ l) (ap (λ (j : ℕ). held_of rx' tx' j c) q) (view_apart (suc k) cs (omega arith))
  view_write k (x ∷ cs) (suc n) c e =
      ap₂ (λ (y : Held) (l : List Held). y ∷ l) (held_same k x (λ q. omega arith)) (view_write (suc k) cs n c (omega arith))

  pub view_one : (cs : List Connection) (c : Connection) → view_from rx' tx' 0 (set cs i c) ≡ set (view_from rx tx 0 cs) i (held_of rx' tx' i c)
  view_one cs c = view_write 0 cs i c (omega arith)

-- A RECORD THAT HOLDS NO MORE than another
pub record Less (c d : Connection) : Type 0 where
  pub received : held_by c.part ≤ held_by d.part
  pub waiting : c.used ≤ d.used

pub less_same : (c : Connection) → Less c c
less_same c = record { received = le_refl (held_by c.part); waiting = le_refl c.used }

-- so its held bytes are the first of the other's
pub follow-held : (rx tx : List ℕ) (i : ℕ) (c d : Connection) → Less c d → held_of rx tx i c ≡ follow c (held_of rx tx i d)
follow-held rx tx i c d l =
    ap₂ (λ (x y : List ℕ). record { connection = c; received = x; waiting = y })
    (sym (take-take (held_by c.part) (held_by d.part) (stretch 1464 i rx) l.received))
    (sym (take-take c.used d.used (stretch 1472 i tx) l.waiting))

-- all records
pub data Fewer : List Connection → List Connection → Type 0 where
  fewer_none : Fewer [] []
  fewer-one : {c d : Connection} {cs ds : List Connection} → Less c d → Fewer cs ds → Fewer (c ∷ cs) (d ∷ ds)

pub fewer-same : (cs : List Connection) → Fewer cs cs
fewer-same [] = fewer_none
fewer-same (c ∷ cs) = fewer-one (less_same c) (fewer-same cs)

pub fewer-set : (cs : List Connection) (i : ℕ) (c : Connection) → Less c (get_or cs i zero_record) → Fewer (set cs i c) cs
fewer-set [] i c l = fewer_none
fewer-set (x ∷ cs) zero c l = fewer-one l (fewer-same cs)
fewer-set (x ∷ cs) (suc i) c l = fewer-one (less_same x) (fewer-set cs i c l)

pub fewer-each : (f : ℕ → Connection → Connection) → ((k : ℕ) (c : Connection) → Less (f k c) c) → (k n : ℕ) (cs : List Connection)
    → Fewer (each_to f k n cs) cs
fewer-each f h k zero cs = fewer-same cs
fewer-each f h k (suc n) [] = fewer_none
fewer-each f h k (suc n) (c ∷ cs) = fewer-one (h k c) (fewer-each f h (suc k) n cs)

view_fewer : (rx tx : List ℕ) (k : ℕ) {cs ds : List Connection} → Fewer cs ds → view_from rx tx k cs ≡ follow_all cs (view_from rx tx k ds)
view_fewer rx tx k fewer_none = refl
view_fewer rx tx k (fewer-one {c} {d} {cs} {ds} l f) = ap₂ (λ (x : Held) (r : List Held). x ∷ r) (follow-held rx tx k c d l) (view_fewer rx tx (suc k) f)

-- AN EVENT THAT WRITES NO MEMORY and leaves records that hold no more
pub view_leaves : (s t : State) (rx tx : List ℕ) → Fewer t.connections s.connections → view_of t rx tx ≡ leaves t (view_of s rx tx)
view_leaves s t rx tx f =
    ap (λ (l : List Held). record { held = l; udp = t.udp_drops; tcp = t.tcp_drops }) (view_fewer rx tx 0 f)
