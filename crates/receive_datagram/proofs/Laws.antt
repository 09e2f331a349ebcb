-- A step of the walk, by the tests that led there.
use Prim.Native.Nat.{ℕ, ◌+◌, ◌-◌, ◌≤◌}
use mathlib.Core.Path.{◌≡◌, ap, ◌∙◌}
use mathlib.Core.List.{List}
use native.Mathlib.Omega.{arith}
use lib.ListN.{length, take, drop, length-drop}
use Rattle.reading.specs.declared.Decision.{Decision}
use Rattle.reading.specs.Feed.{Routes}
use Rattle.wire.specs.Be.{be}
use Rattle.reading_lengths.specs.Head.{Head, ended, whole, head_of}
use Rattle.reading_lengths.proofs.Heads.{head-end, head-whole}
use Rattle.reading_walk.specs.Walk.{whole_at, walk_step, walk_at}
use Rattle.wire.proofs.Part.{part_to_end}
use Rattle.receive_route.specs.Route.{lookup_of}
use Rattle.receive_datagram.specs.declared.Outcome.TheVariants.{End}
use Rattle.receive_datagram.specs.declared.Walked.{Walked}
use Rattle.receive_datagram.specs.Datagram.{stepped, walked_of}

-- by what stands at the front
pub stands_at_front : (R : Routes) (m p : ℕ) (l : List ℕ) (h : Head) → h ≡ head_of l → stepped (walk_step R m p h) ≡ stepped (walk_step R m p (head_of l))
stands_at_front R m p l h e = ap (λ (k : Head). stepped (walk_step R m p k)) e

-- a whole PDU, and what the routes say to it
pub judged : (R : Routes) (m p : ℕ) (l : List ℕ) (i n : ℕ) (d : Decision) (w : Walked) → 8 ≤ length l → i ≡ be 4 l 0 → n ≡ be 4 l 4 → n ≤ length l - 8
    → d ≡ R i n → w ≡ stepped (whole_at d p i n) → w ≡ stepped (walk_step R m p (head_of l))
judged R m p l i n d w h ei en fits ed e =
    e ∙ ap (λ (q : Decision). stepped (whole_at q p i n)) ed ∙ stands_at_front R m p l (whole i n) (head-whole l i n h ei en fits)

-- a place at the end or beyond it
pub walk_at_end : (datagram : List ℕ) (place : ℕ) (routes : List ℕ) (connection switches : ℕ) → length datagram ≤ place
    → ◌≡◌ {A = Walked} (record { outcome = End; next = length datagram }) (walked_of datagram place routes connection switches)
unfolding walked_of walk_at
walk_at_end datagram place routes connection switches h =
    let n : length (drop place datagram) ≡ 0 = omega (arith, length-drop place datagram) in
    stands_at_front (lookup_of routes connection switches) (length datagram) place (drop place datagram) ended (head-end (drop place datagram) n)

-- the part that starts in the middle is the rest of the datagram
pub in_the_middle : (datagram : List ℕ) (place : ℕ) (routes : List ℕ) (connection switches : ℕ) (w : Walked) → place ≤ length datagram
    → w ≡ stepped (walk_step (lookup_of routes connection switches) (place + length (take (length datagram - place) (drop place datagram))) place
    (head_of (take (length datagram - place) (drop place datagram))))
    → w ≡ walked_of datagram place routes connection switches
unfolding walked_of walk_at
in_the_middle datagram place routes connection switches w h e =
    let r : take (length datagram - place) (drop place datagram) ≡ drop place datagram = part_to_end datagram place in
    let n : place + length (drop place datagram) ≡ length datagram = omega (arith, length-drop place datagram) in
    e ∙ ap (λ (l : List ℕ). stepped (walk_step (lookup_of routes connection switches) (place + length l) place (head_of l))) r
    ∙ ap (λ (m : ℕ). stepped (walk_step (lookup_of routes connection switches) m place (head_of (drop place datagram)))) n
