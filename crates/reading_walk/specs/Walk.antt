-- THE WALK OVER A DATAGRAM (R7.8 to R7.12): what stands at a place, the next place, and the list of a whole datagram.
use Rattle.std.specs.Prelude.{ℕ, zero, suc, ◌+◌, ◌≤◌, ◌<◌, List, [], ◌∷◌, ◌++◌, map, length, take, drop}
use Rattle.reading.specs.declared.DropReason.{DropReason}
use Rattle.reading.specs.declared.DropReason.TheVariants.{CutShort}
use Rattle.reading.specs.declared.Decision.{Decision}
use Rattle.reading.specs.declared.Decision.TheVariants.{Accept, Refuse, Transfer}
use Rattle.reading.specs.Feed.{Routes, Out, pdu, dropped}
use Rattle.frame.specs.Frame.{Sent}
use Rattle.reading_lengths.specs.Head.{Head, ended, short, beyond, whole, head_of}
use Rattle.reading_lengths.specs.Split.{split}

-- R7.8, R7.10, the next PDU, a drop, or the end: a PDU by its route, the place and length of its payload, and its id; a drop by its
-- reason, id and length
pub data Found : Type 0 where
  the_end : Found
  a_pdu : (route place length id : ℕ) → Found
  a_drop : (reason : DropReason) (id length : ℕ) → Found

-- with the next place
pub record Walked : Type 0 where
  pub found : Found
  pub next : ℕ

abbrev pub walked : Found → ℕ → Walked
walked f p = record { found = f; next = p }

-- a header with its whole payload, at place p: the routes decide, and the next place is behind the payload (no route of a UDP
-- connection is marked; one that were would hand out the payload whole)
abbrev pub whole_at : Decision → ℕ → ℕ → ℕ → Walked
whole_at (Accept r) p i n = walked (a_pdu r (p + 8) n i) (p + 8 + n)
whole_at (Refuse k) p i n = walked (a_drop k i n) (p + 8 + n)
whole_at (Transfer r) p i n = walked (a_pdu r (p + 8) n i) (p + 8 + n)

-- R7.9: 1..7 bytes left, or a length beyond the end, is drop 23 (with id and length 0 for the former) and the place becomes the end, before
-- 20, 21, 22: at place p of a datagram of m bytes, by what stands there
abbrev pub walk_step : Routes → ℕ → ℕ → Head → Walked
walk_step R m p ended = walked the_end m
walk_step R m p short = walked (a_drop CutShort 0 0) m
walk_step R m p (beyond i n) = walked (a_drop CutShort i n) m
walk_step R m p (whole i n) = whole_at (R i n) p i n

-- A STEP OF THE WALK: datagram d, place p (0 .. its length)
unfoldable pub walk_at : Routes → List ℕ → ℕ → Walked
walk_at R d p = walk_step R (length d) p (head_of (drop p d))

-- R7.12: from place p forward to q, and not past the end m
pub record Forward (m p q : ℕ) : Type 0 where
  pub more : p < q
  pub within : q ≤ m

-- THE WALK: steps from place p until the end, at most f, each with the payload that it names
abbrev pub outs_told : List ℕ → Found → List Out → List Out
outs_told d the_end later = []
outs_told d (a_pdu r p n i) later = pdu r (take n (drop p d)) ∷ later
outs_told d (a_drop k i n) later = dropped k i n ∷ later

unfoldable pub walks : Routes → ℕ → List ℕ → ℕ → List Out
walks R zero d p = []
walks R (suc f) d p = outs_told d (walk_at R d p).found (walks R f d (walk_at R d p).next)

-- the place after f steps
unfoldable pub place_after_steps : Routes → ℕ → List ℕ → ℕ → ℕ
place_after_steps R zero d p = p
place_after_steps R (suc f) d p = place_after_steps R f d (walk_at R d p).next

-- THE LIST OF A DATAGRAM by lengths alone, with no place and no step: what the routes say to each whole PDU, and 23 for what is
-- left over. Nothing is carried to the next datagram.
abbrev pub judge : Decision → Sent → Out
judge (Accept r) s = pdu r s.body
judge (Refuse k) s = dropped k s.id (length s.body)
judge (Transfer r) s = pdu r s.body

abbrev pub left_over : Head → List Out
left_over ended = []
left_over short = dropped CutShort 0 0 ∷ []
left_over (beyond i n) = dropped CutShort i n ∷ []
left_over (whole i n) = []

unfoldable pub list_of : Routes → List ℕ → List Out
list_of R d = map (λ (s : Sent). judge (R s.id (length s.body)) s) (split d).pdus ++ left_over (head_of (split d).rest)
