-- What a take leaves: its part and receive memory are the stream's cell again, shaped and within its route's limit; and the
-- payload that it names is the PDU's.
use Prim.Native.Nat.{ℕ, zero, suc, ◌+◌, ◌-◌, ◌*◌, ◌/◌, ◌%◌, ◌^◌, ◌≤◌, ◌<◌}
use mathlib.Core.Path.{◌≡◌, refl, sym, ap, ap₂, ◌∙◌, subst}
use mathlib.Core.Bool.{Bool, true, false, cond, true≢false}
use mathlib.Core.List.{List, [], ◌∷◌, ◌++◌, append-nil, append_assoc}
use native.Mathlib.Omega.{arith}
use borrow.Author.Tests.{le-leb, lt-ltb, ltb-true}
use lib.Dec.{ltb}
use lib.ListN.{length, get_or, take, drop, length-append, take-append-drop}
use lib.Seq.{take-append_seam, drop-append_seam, length-take-le}
use Rattle.reading.specs.declared.Decision.{Decision}
use Rattle.reading.specs.declared.Decision.TheVariants.{Accept, Refuse, Transfer as Move}
use Rattle.reading.specs.Feed.{Routes, header, payload, skip, Cell, cell, transfer, Out, nothing, pdu, dropped, start, piece, Fed, fed}
use Rattle.reading.specs.Feed.{stops, Took, goes, ready, piece_by, take_b, Ends, at_end, at_byte, at_seam, at_mark, decided, piece_done, feed}
use Rattle.reading.proofs.Laws.{skip_cell, move_cell, grow}
use Rattle.reading.proofs.Cut.{Outside, outside, take_ends}
use Rattle.table_layout.proofs.Parts.{part-fits}
use Rattle.table_layout.specs.Layout.{part_of}
use Rattle.lists.proofs.Both.{and_both}
use Rattle.receive_part.specs.declared.Part.{Part}
use Rattle.receive_part.specs.declared.Part.TheVariants.{Header, Payload, Skip, Transfer}
use Rattle.receive_part.specs.Part.{shaped}
use Rattle.receive_route.specs.Route.{lookup_of, rows_in}
use Rattle.receive_route.specs.Decided.{Allows, Carries}
use Rattle.receive_route.proofs.Decided.{route-accepted, route_transfers}
use Rattle.table_rows.specs.Rows.{route_in}
use Rattle.wire.specs.Lay.{lay}
use Rattle.wire.proofs.Lay.{lay-fits, lay-own, lay-length}
use Rattle.receive_stream.specs.declared.Outcome.TheVariants.{More}
use Rattle.receive_stream.specs.Stream.{cell_of, part_from, held_in, none_held, is_in_segment, wrote, took_of, taken_of, rx_after, payload_at, length_of, Fit}
use Rattle.receive_stream.proofs.Takes.{header_fit, payload_fit, skip_fit, transfer_fit, accepted-short}

-- a law of every byte, and of a piece that its segment cuts off, is a law of a take
stepwise : (R : Routes) (Q : Cell → Type 0) (S : Out → Cell → Type 0)
    → ((c : Cell) (b : ℕ) → b < 256 → Q c → (Q (feed R c b).to) × (S (feed R c b).out (feed R c b).to))
    → ((n r : ℕ) (bs : List ℕ) (t : Bool) → ltb (length bs) (suc n) ≡ t → Q (transfer (suc n) r)
    → (Q (piece_by t (suc n) r bs).to) × (S (piece_by t (suc n) r bs).out (piece_by t (suc n) r bs).to))
    → ((c : Cell) → Q c → S nothing c) → (c : Cell) (bs : List ℕ) → ((i : ℕ) → get_or bs i 0 < 256)
    → Q c → (Q (take_b R c bs).to) × (S (take_b R c bs).out (take_b R c bs).to)
unfolding take_b feed
stepwise R Q S step pieces calm c [] hs q = (q, calm c q)
stepwise R Q S step pieces calm (transfer zero r) (b ∷ bs) hs q =
    stepwise R Q S step pieces calm ready bs (λ i. hs (suc i)) (step (transfer zero r) b (hs 0) q).0
stepwise R Q S step pieces calm (transfer (suc n) r) (b ∷ bs) hs q = pieces n r (b ∷ bs) (ltb (length (b ∷ bs)) (suc n)) refl q
stepwise R Q S step pieces calm (cell n k) (b ∷ bs) hs q =
    let f : Fed = feed R (cell n k) b in
    let h : (Q f.to) × (S f.out f.to) = step (cell n k) b (hs 0) q in
    go f.to f.out (take_b R f.to bs) (outside R n k b) h (stepwise R Q S step pieces calm f.to bs (λ i. hs (suc i)) h.0)
  where
    go : (d : Cell) (o : Out) (t : Took) → Outside d o → (Q d) × (S o d) → (Q t.to) × (S t.out t.to)
        → (Q (goes (fed d o) bs t).to) × (S (goes (fed d o) bs t).out (goes (fed d o) bs t).to)
    go d nothing t x h later = later
    go d (pdu r p) t x h later = h
    go d (dropped k i n) t x h later = h
    go d (start r i n m) t x h later = h
    go d (piece r p m) t x h later = absurd x

-- A CELL AS A TAKE LEAVES IT, where P is what holds of each accepted header's route and length, and M of each transfer's route; and
-- each outcome with its cell
module _ (P : ℕ → ℕ → Type 0) (M : ℕ → Type 0) where
  abbrev pub Sane : Cell → Type 0
  Sane (cell n (header v)) = (0 < n) × (n ≤ 8) × (v < 256 ^ (8 - n))
  Sane (cell n (payload r h)) = (0 < n) × (P r (n + length h))
  Sane (cell n skip) = 0 < n
  Sane (transfer n r) = (0 < n) × (M r)

  abbrev pub Told : Out → Cell → Type 0
  Told nothing c = Unit {0}
  Told (pdu r p) c = (c ≡ ready) × (P r (length p))
  Told (dropped k i n) c = c ≡ skip_cell n
  Told (start r i n m) c = (c ≡ move_cell n r) × (M r)
  Told (piece r p true) c = (c ≡ ready) × (M r)
  Told (piece r p false) c = (n : ℕ) × (c ≡ transfer n r) × (M r)

  decided_sane : (d : Decision) (i n : ℕ) → ((r : ℕ) → d ≡ Accept r → P r n) → ((r : ℕ) → d ≡ Move r → M r)
      → (Sane (decided d i n).to) × (Told (decided d i n).out (decided d i n).to)
  decided_sane (Accept r) i zero ok go = ((omega arith, omega arith, omega arith), (refl, ok r refl))
  decided_sane (Accept r) i (suc n) ok go = let e : suc n ≡ suc n + 0 = omega arith in ((omega arith, subst (P r) e (ok r refl)), tt)
  decided_sane (Refuse k) i zero ok go = ((omega arith, omega arith, omega arith), refl)
  decided_sane (Refuse k) i (suc n) ok go = (omega arith, refl)
  decided_sane (Move r) i zero ok go = ((omega arith, omega arith, omega arith), (refl, go r refl))
  decided_sane (Move r) i (suc n) ok go = ((omega arith, go r refl), (refl, go r refl))

  -- one byte more of a payload
  longer : (r m n : ℕ) (h : List ℕ) (b : ℕ) → m ≡ suc n → P r (m + length h) → P r (n + length (h ++ b ∷ []))
  longer r m n h b e p = let q : m + length h ≡ n + length (h ++ b ∷ []) = omega (arith, length-append h (b ∷ [])) in subst (P r) q p

  module _ (R : Routes) (ok : (i n r : ℕ) → R i n ≡ Accept r → P r n) (moves : (i n r : ℕ) → R i n ≡ Move r → M r) where
    feed_sane : (c : Cell) (b : ℕ) → b < 256 → Sane c → (Sane (feed R c b).to) × (Told (feed R c b).out (feed R c b).to)
    unfolding feed piece_done
    feed_sane (cell zero k) b hb s = ((omega arith, omega arith, omega arith), tt)
    feed_sane (cell (suc zero) (header v)) b hb s =
        let w : ℕ = v * 256 + b in
        decided_sane (R (w / 2 ^ 32) (w % 2 ^ 32)) (w / 2 ^ 32) (w % 2 ^ 32) (ok (w / 2 ^ 32) (w % 2 ^ 32)) (moves (w / 2 ^ 32) (w % 2 ^ 32))
    feed_sane (cell (suc zero) (payload r h)) b hb s =
        let e : 0 + length (h ++ b ∷ []) ≡ length (h ++ b ∷ []) = omega arith in
        ((omega arith, omega arith, omega arith), (refl, subst (P r) e (longer r 1 0 h b refl s.1)))
    feed_sane (cell (suc zero) skip) b hb s = ((omega arith, omega arith, omega arith), tt)
    feed_sane (cell (suc (suc n)) (header v)) b hb s =
        let e : 8 - suc (suc n) + 1 ≡ 8 - suc n = omega arith in
        ((omega arith, omega arith, subst (λ (m : ℕ). v * 256 + b < 256 ^ m) e (grow (8 - suc (suc n)) v b s.2 hb)), tt)
    feed_sane (cell (suc (suc n)) (payload r h)) b hb s = ((omega arith, longer r (suc (suc n)) (suc n) h b refl s.1), tt)
    feed_sane (cell (suc (suc n)) skip) b hb s = (omega arith, tt)
    feed_sane (transfer zero r) b hb s = ((omega arith, omega arith, omega arith), tt)
    feed_sane (transfer (suc zero) r) b hb s = ((omega arith, omega arith, omega arith), (refl, s.1))
    feed_sane (transfer (suc (suc n)) r) b hb s = ((omega arith, s.1), (suc n, refl, s.1))

    piece_sane : (n r : ℕ) (bs : List ℕ) (t : Bool) → ltb (length bs) (suc n) ≡ t → Sane (transfer (suc n) r)
        → (Sane (piece_by t (suc n) r bs).to) × (Told (piece_by t (suc n) r bs).out (piece_by t (suc n) r bs).to)
    piece_sane n r bs true e s = ((omega (arith, ltb-true (length bs) (suc n) e), s.1), (suc n - length bs, refl, s.1))
    piece_sane n r bs false e s = ((omega arith, omega arith, omega arith), (refl, s.1))

    pub take_sane : (c : Cell) (bs : List ℕ) → ((i : ℕ) → get_or bs i 0 < 256) → Sane c
        → (Sane (take_b R c bs).to) × (Told (take_b R c bs).out (take_b R c bs).to)
    take_sane = stepwise R Sane Told feed_sane piece_sane (λ c s. tt)

-- P holds of route and length where the part is a payload, and M of the route where it is a transfer
abbrev pub PartHolds : (ℕ → ℕ → Type 0) → (ℕ → Type 0) → Part → Type 0
PartHolds P M (Header held value) = Unit {0}
PartHolds P M (Payload route n held) = P route n
PartHolds P M (Skip n) = Unit {0}
PartHolds P M (Transfer route left) = M route

module _ (P : ℕ → ℕ → Type 0) (M : ℕ → Type 0) where
  pub part_sane : (routes : List ℕ) (part : Part) (rx : List ℕ) → Fit routes part rx → PartHolds P M part → Sane P M (cell_of part rx)
  part_sane routes (Header held value) rx fit h =
      let f : (held < 8) × (value < 256 ^ held) = header_fit routes (Header held value) rx fit held value refl in
      let e : held ≡ 8 - (8 - held) = omega arith in
      (omega arith, omega arith, subst (λ (m : ℕ). value < 256 ^ m) e f.1)
  part_sane routes (Payload route n held) rx fit h =
      let f : (held < n) × (n ≤ length rx) = payload_fit routes (Payload route n held) rx fit route n held refl in
      let e : n ≡ n - held + length (take held rx) = omega (arith, length-take-le held rx (omega arith)) in
      (omega arith, subst (P route) e h)
  part_sane routes (Skip n) rx fit h = skip_fit routes (Skip n) rx fit n refl
  part_sane routes (Transfer route left) rx fit h = (transfer_fit routes (Transfer route left) rx fit route left refl, h)

  sane_part : (c : Cell) → Sane P M c → PartHolds P M (part_from c)
  sane_part (cell n (header v)) s = tt
  sane_part (cell n (payload r h)) s = s.1
  sane_part (cell n skip) s = tt
  sane_part (transfer n r) s = s.1

  sane_shape : (c : Cell) → Sane P M c → shaped (part_from c) ≡ true
  sane_shape (cell n (header v)) s = and_both (le-leb (8 - n) 7 (omega arith)) (lt-ltb v (256 ^ (8 - n)) s.2)
  sane_shape (cell n (payload r h)) s = lt-ltb (length h) (n + length h) (omega arith)
  sane_shape (cell n skip) s = lt-ltb 0 n s
  sane_shape (transfer n r) s = lt-ltb 0 n s.0

-- THE PART AND THE MEMORY THAT A TAKE LEAVES ARE THE CELL THAT IT LEAVES
abbrev Short : ℕ → ℕ → Type 0
Short r n = n ≤ 1464

abbrev Any : ℕ → Type 0
Any r = Unit {0}

back_held : (rx : List ℕ) (c : Cell) → length rx ≡ 1464 → Sane Short Any c → cell_of (part_from c) (lay rx 0 (held_in c)) ≡ c
back_held rx (cell n (header v)) e s = ap (λ (m : ℕ). cell m (header v)) (omega arith)
back_held rx (cell n (payload r h)) e s =
    let m : n + length h - length h ≡ n = omega arith in
    ap₂ (λ (k : ℕ) (l : List ℕ). cell k (payload r l)) m (lay-own rx 0 h (omega (arith, s.1)))
back_held rx (cell n skip) e s = refl
back_held rx (transfer n r) e s = refl

back : (s : Bool) (rx : List ℕ) (o : Out) (c : Cell) → length rx ≡ 1464 → Sane Short Any c → Told Short Any o c → cell_of (part_from c) (wrote s o c rx) ≡ c
back s rx nothing c e h t = back_held rx c e h
back true rx (pdu r p) c e h t = subst (λ (d : Cell). cell_of (part_from d) rx ≡ d) (sym t.0) refl
back false rx (pdu r p) c e h t = subst (λ (d : Cell). cell_of (part_from d) (lay rx 0 p) ≡ d) (sym t.0) refl
back s rx (dropped k i zero) c e h t = subst (λ (d : Cell). cell_of (part_from d) rx ≡ d) (sym t) refl
back s rx (dropped k i (suc n)) c e h t = subst (λ (d : Cell). cell_of (part_from d) rx ≡ d) (sym t) refl
back s rx (start r i zero m) c e h t = subst (λ (d : Cell). cell_of (part_from d) rx ≡ d) (sym t.0) refl
back s rx (start r i (suc n) m) c e h t = subst (λ (d : Cell). cell_of (part_from d) rx ≡ d) (sym t.0) refl
back s rx (piece r p true) c e h t = subst (λ (d : Cell). cell_of (part_from d) rx ≡ d) (sym t.0) refl
back s rx (piece r p false) c e h t = subst (λ (d : Cell). cell_of (part_from d) rx ≡ d) (sym t.1) refl

wrote-length : (s : Bool) (o : Out) (c : Cell) (rx : List ℕ) → length (wrote s o c rx) ≡ length rx
wrote-length s nothing c rx = lay-length rx 0 (held_in c)
wrote-length true (pdu r p) c rx = refl
wrote-length false (pdu r p) c rx = lay-length rx 0 p
wrote-length s (dropped k i n) c rx = refl
wrote-length s (start r i n m) c rx = refl
wrote-length s (piece r p m) c rx = refl

-- THE PAYLOAD STANDS AT THE END OF WHAT WAS READ, with what was held before it
abbrev Last : Cell → List ℕ → Took → Type 0
Last c bs t = (r : ℕ) (p : List ℕ) → t.out ≡ pdu r p → (pre : List ℕ) × (held_in c ++ bs ≡ pre ++ (p ++ t.rest))

-- what a byte leaves to be carried on, or hands out
abbrev tail_of : Out → Cell → List ℕ
tail_of nothing c = held_in c
tail_of (pdu r p) c = p
tail_of (dropped k i n) c = []
tail_of (start r i n m) c = []
tail_of (piece r p m) c = []

decided_tail : (d : Decision) (i n : ℕ) → tail_of (decided d i n).out (decided d i n).to ≡ []
decided_tail (Accept r) i zero = refl
decided_tail (Accept r) i (suc n) = refl
decided_tail (Refuse k) i zero = refl
decided_tail (Refuse k) i (suc n) = refl
decided_tail (Move r) i zero = refl
decided_tail (Move r) i (suc n) = refl

feed_tail : (R : Routes) (c : Cell) (b : ℕ) → (q : List ℕ) × (held_in c ++ b ∷ [] ≡ q ++ tail_of (feed R c b).out (feed R c b).to)
unfolding feed piece_done
feed_tail R (cell zero k) b = (held_in (cell zero k) ++ b ∷ [], sym (append-nil _))
feed_tail R (cell (suc zero) (header v)) b =
    let w : ℕ = v * 256 + b in
    (b ∷ [], ap (λ (l : List ℕ). (b ∷ []) ++ l) (sym (decided_tail (R (w / 2 ^ 32) (w % 2 ^ 32)) (w / 2 ^ 32) (w % 2 ^ 32))))
feed_tail R (cell (suc zero) (payload r h)) b = ([], refl)
feed_tail R (cell (suc zero) skip) b = (b ∷ [], refl)
feed_tail R (cell (suc (suc n)) (header v)) b = (b ∷ [], refl)
feed_tail R (cell (suc (suc n)) (payload r h)) b = ([], refl)
feed_tail R (cell (suc (suc n)) skip) b = (b ∷ [], refl)
feed_tail R (transfer zero r) b = (b ∷ [], refl)
feed_tail R (transfer (suc zero) r) b = (b ∷ [], refl)
feed_tail R (transfer (suc (suc n)) r) b = (b ∷ [], refl)

no_pdu : (n r b : ℕ) (bs : List ℕ) (t : Bool) → Last (transfer (suc n) r) (b ∷ bs) (piece_by t (suc n) r (b ∷ bs))
no_pdu n r b bs true r' p e = let z : ◌≡◌ {A = ℕ} 0 1 = cc in absurd (omega arith)
no_pdu n r b bs false r' p e = let z : ◌≡◌ {A = ℕ} 0 1 = cc in absurd (omega arith)

take_last : (R : Routes) (c : Cell) (bs : List ℕ) → Last c bs (take_b R c bs)
unfolding take_b
take_last R c [] r p e = let z : ◌≡◌ {A = ℕ} 0 1 = cc in absurd (omega arith)
take_last R (transfer zero q) (b ∷ bs) r p e = let g = take_last R ready bs r p e in (b ∷ g.0, ap (λ (l : List ℕ). b ∷ l) g.1)
take_last R (transfer (suc n) q) (b ∷ bs) r p e = no_pdu n q b bs (ltb (length (b ∷ bs)) (suc n)) r p e
take_last R (cell m k) (b ∷ bs) r p e =
    go (feed R (cell m k) b).to (feed R (cell m k) b).out (take_b R (feed R (cell m k) b).to bs)
    (outside R m k b) (feed_tail R (cell m k) b) (take_last R (feed R (cell m k) b).to bs) e
  where
    c : Cell
    c = cell m k

    go : (d : Cell) (o : Out) (t : Took) → Outside d o → ((q : List ℕ) × (held_in c ++ b ∷ [] ≡ q ++ tail_of o d)) → Last d bs t
        → (goes (fed d o) bs t).out ≡ pdu r p → (pre : List ℕ) × (held_in c ++ b ∷ bs ≡ pre ++ (p ++ (goes (fed d o) bs t).rest))
    go d nothing t x f h e =
        let g : (pre : List ℕ) × (held_in d ++ bs ≡ pre ++ (p ++ t.rest)) = h r p e in (
          f.0 ++ g.0,
          sym (append_assoc (held_in c) (b ∷ []) bs)
              ∙ ap (λ (l : List ℕ). l ++ bs) f.1
              ∙ append_assoc f.0 (held_in d) bs
              ∙ ap (λ (l : List ℕ). f.0 ++ l) g.1
              ∙ sym (append_assoc f.0 g.0 (p ++ t.rest)),
        )
    go d (pdu r' p') t x f h e =
        let same : p' ≡ p = cc in (
          f.0,
          sym (append_assoc (held_in c) (b ∷ []) bs)
              ∙ ap (λ (l : List ℕ). l ++ bs) (f.1 ∙ ap (λ (l : List ℕ). f.0 ++ l) same)
              ∙ append_assoc f.0 p bs,
        )
    go d (dropped k i n) t x f h e = let z : ◌≡◌ {A = ℕ} 0 1 = cc in absurd (omega arith)
    go d (start r i n y) t x f h e = let z : ◌≡◌ {A = ℕ} 0 1 = cc in absurd (omega arith)
    go d (piece r q y) t x f h e = absurd x

-- the part of a list that ends before its rest
middle : (l pre p rest : List ℕ) → l ≡ pre ++ (p ++ rest) → part_of l (length l - length rest - length p) (length p) ≡ p
middle l pre p rest e =
    let n : length l ≡ length pre + (length p + length rest) =
    ap length e ∙ length-append pre (p ++ rest) ∙ ap (λ (k : ℕ). length pre + k) (length-append p rest) in
    let at : length l - length rest - length p ≡ length pre = omega arith in
    ap (λ (k : ℕ). part_of l k (length p)) at
    ∙ part-fits l (length pre) (length p) (omega arith)
    ∙ ap (λ (m : List ℕ). take (length p) (drop (length pre) m)) e
    ∙ ap (take (length p)) (drop-append_seam pre (p ++ rest)) ∙ take-append_seam p rest

-- a route of the connection that is not marked and allows the length
pub record Owns (routes : List ℕ) (connection route n : ℕ) : Type 0 where
  pub there : route < rows_in routes
  pub owned : (route_in routes route).connection ≡ connection
  pub allows : n ≤ (route_in routes route).longest
  pub plain : (route_in routes route).transfer ≡ false

-- a marked route of the connection
pub record Moves (routes : List ℕ) (connection route : ℕ) : Type 0 where
  pub there : route < rows_in routes
  pub owned : (route_in routes route).connection ≡ connection
  pub marked : (route_in routes route).transfer ≡ true

owns : (routes : List ℕ) (connection switches i n r : ℕ) → lookup_of routes connection switches i n ≡ Accept r → Owns routes connection r n
owns routes connection switches i n r e =
    let a : Allows routes connection switches i n r = route-accepted routes connection switches i n r e in
    record { there = a.bears.there; owned = a.bears.owned; allows = a.fits; plain = a.unmarked }

marks : (routes : List ℕ) (connection switches i n r : ℕ) → lookup_of routes connection switches i n ≡ Move r → Moves routes connection r
marks routes connection switches i n r e =
    let a : Carries routes connection switches i n r = route_transfers routes connection switches i n r e in
    record { there = a.bears.there; owned = a.bears.owned; marked = a.marked }

-- THE WHOLE TAKE, from a part and a stretch that fit, of a segment of bytes
module _ (routes : List ℕ) (connection switches : ℕ) (part : Part) (rx segment : List ℕ)
    (fit : Fit routes part rx) (bytes : (i : ℕ) → get_or segment i 0 < 256) where
  within : (i n r : ℕ) → lookup_of routes connection switches i n ≡ Accept r → n ≤ 1464
  within i n r e = accepted-short routes connection switches i n r e fit.limits

  part-short : (p : Part) → length_of p ≤ 1464 → PartHolds Short Any p
  part-short (Header held value) h = tt
  part-short (Payload route n held) h = h
  part-short (Skip n) h = tt
  part-short (Transfer route left) h = tt

  short-part : (p : Part) → PartHolds Short Any p → length_of p ≤ 1464
  short-part (Header held value) h = omega arith
  short-part (Payload route n held) h = h
  short-part (Skip n) h = omega arith
  short-part (Transfer route left) h = omega arith

  taken_sane : (Sane Short Any (took_of routes connection switches part rx segment).to)
      × (Told Short Any (took_of routes connection switches part rx segment).out (took_of routes connection switches part rx segment).to)
  unfolding took_of
  taken_sane =
      take_sane Short Any (lookup_of routes connection switches) within (λ i n r e. tt) (cell_of part rx) segment bytes
      (part_sane Short Any routes part rx fit (part-short part fit.fits))

  -- the part and receive memory afterwards are the stream's cell, and fit again
  pub leaves-cell : cell_of (taken_of routes connection switches part rx segment).part (rx_after routes connection switches part rx segment)
      ≡ (took_of routes connection switches part rx segment).to
  unfolding taken_of rx_after
  leaves-cell =
      back (is_in_segment (cell_of part rx)) rx (took_of routes connection switches part rx segment).out (took_of routes connection switches part rx segment).to
      fit.room taken_sane.0 taken_sane.1

  pub leaves-length : length (rx_after routes connection switches part rx segment) ≡ length rx
  unfolding rx_after
  leaves-length = wrote-length (is_in_segment (cell_of part rx))
      (took_of routes connection switches part rx segment).out (took_of routes connection switches part rx segment).to rx

  pub leaves-fit : Fit routes (taken_of routes connection switches part rx segment).part (rx_after routes connection switches part rx segment)
  unfolding taken_of
  leaves-fit =
      record {
        shape = sane_shape Short Any (took_of routes connection switches part rx segment).to taken_sane.0;
        fits = short-part (part_from (took_of routes connection switches part rx segment).to)
            (sane_part Short Any (took_of routes connection switches part rx segment).to taken_sane.0);
        room = leaves-length ∙ fit.room;
        limits = fit.limits;
      }

  -- R3.4, R19.8: the route of a payload belongs to the connection, allows the length and is not marked; that of a transfer belongs to it and
  -- is marked: kept by a take
  pub leaves-owned : PartHolds (Owns routes connection) (Moves routes connection) part
      → PartHolds (Owns routes connection) (Moves routes connection) (taken_of routes connection switches part rx segment).part
  unfolding taken_of took_of
  leaves-owned h =
      let O : ℕ → ℕ → Type 0 = Owns routes connection in
      let M : ℕ → Type 0 = Moves routes connection in
      sane_part O M (took_of routes connection switches part rx segment).to
      (take_sane O M (lookup_of routes connection switches) (owns routes connection switches) (marks routes connection switches) (cell_of part rx) segment bytes
      (part_sane O M routes part rx fit h)).0

  -- WHAT `payload_of` RETURNS OF A TAKE'S ANSWER IS THE PDU'S PAYLOAD
  told_short : (r : ℕ) (p : List ℕ) (o : Out) (c : Cell) → o ≡ pdu r p → Told Short Any o c → length p ≤ 1464
  told_short r p nothing c e t = let z : ◌≡◌ {A = ℕ} 0 1 = cc in absurd (omega arith)
  told_short r p (pdu r' p') c e t = let same : p' ≡ p = cc in subst (λ (l : List ℕ). length l ≤ 1464) same t.1
  told_short r p (dropped k i n) c e t = let z : ◌≡◌ {A = ℕ} 0 1 = cc in absurd (omega arith)
  told_short r p (start q i n m) c e t = let z : ◌≡◌ {A = ℕ} 0 1 = cc in absurd (omega arith)
  told_short r p (piece q l m) c e t = let z : ◌≡◌ {A = ℕ} 0 1 = cc in absurd (omega arith)

  pub hands_out : (r : ℕ) (p : List ℕ) → (took_of routes connection switches part rx segment).out ≡ pdu r p
      → payload_at segment (rx_after routes connection switches part rx segment) (is_in_segment (cell_of part rx))
      (cond (is_in_segment (cell_of part rx)) (length segment - length (took_of routes connection switches part rx segment).rest - length p) 0) (length p) ≡ p
  unfolding rx_after took_of
  hands_out r p e =
      go (held_in (cell_of part rx)) (take_last (lookup_of routes connection switches) (cell_of part rx) segment r p e)
      (told_short r p _ (took_of routes connection switches part rx segment).to e taken_sane.1)
    where
      t : Took
      t = take_b (lookup_of routes connection switches) (cell_of part rx) segment

      go : (h : List ℕ) → ((pre : List ℕ) × (h ++ segment ≡ pre ++ (p ++ t.rest))) → length p ≤ 1464
          → payload_at segment (wrote (none_held h) t.out t.to rx) (none_held h)
          (cond (none_held h) (length segment - length t.rest - length p) 0) (length p) ≡ p
      go [] f l = middle segment f.0 p t.rest f.1
      go (x ∷ h) f l =
          ap (λ (o : Out). part_of (wrote false o t.to rx) 0 (length p)) e
          ∙ part-fits (lay rx 0 p) 0 (length p) (omega (arith, lay-length rx 0 p, fit.room))
          ∙ lay-own rx 0 p (omega (arith, fit.room))

-- A PIECE STANDS AT THE FRONT OF ITS SEGMENT: it is what was read, one byte at least
abbrev bytes_in : Out → List ℕ
bytes_in nothing = []
bytes_in (pdu r p) = p
bytes_in (dropped k i n) = []
bytes_in (start r i n m) = []
bytes_in (piece r p m) = p

pub piece-front : (R : Routes) (c : Cell) (bs : List ℕ) (t : Took) → Ends R c bs t
    → (r : ℕ) (p : List ℕ) (m : Bool) → t.out ≡ piece r p m → (0 < length p) × (bs ≡ p ++ t.rest)
piece-front R c bs t (at_end _ _ _) r p m e = let z : ◌≡◌ {A = ℕ} 0 1 = cc in absurd (omega arith)
piece-front R c bs t (at_byte _ a b rest f _ _ s) r p m e = absurd (true≢false (sym s ∙ ap stops e))
piece-front R c bs t (at_seam n q a some _) r p m e = (subst (λ (l : List ℕ). 0 < length l) (ap bytes_in e) some, ap bytes_in e ∙ sym (append-nil p))
piece-front R c bs t (at_mark n q a rest some _) r p m e =
    (subst (λ (l : List ℕ). 0 < length l) (ap bytes_in e) some, ap (λ (l : List ℕ). l ++ rest) (ap bytes_in e))

pub handed-piece : (routes : List ℕ) (connection switches : ℕ) (part : Part) (rx segment : List ℕ) (r : ℕ) (p : List ℕ) (m : Bool)
    → (took_of routes connection switches part rx segment).out ≡ piece r p m
    → part_of segment (length segment - length (took_of routes connection switches part rx segment).rest - length p) (length p) ≡ p
unfolding took_of
handed-piece routes connection switches part rx segment r p m e =
    let R : Routes = lookup_of routes connection switches in
    middle segment [] p (take_b R (cell_of part rx) segment).rest (piece-front R (cell_of part rx) segment _ (take_ends R (cell_of part rx) segment) r p m e).1

-- A TAKE OF NO BYTE reads none, wants more and leaves the part and receive memory as they are
part_back : (routes : List ℕ) (part : Part) (rx : List ℕ) → Fit routes part rx → part_from (cell_of part rx) ≡ part
part_back routes (Header held value) rx fit =
    let f : (held < 8) × (value < 256 ^ held) = header_fit routes (Header held value) rx fit held value refl in
    let e : 8 - (8 - held) ≡ held = omega arith in
    ap (λ (k : ℕ). Header k value) e
part_back routes (Payload route n held) rx fit =
    let f : (held < n) × (n ≤ length rx) = payload_fit routes (Payload route n held) rx fit route n held refl in
    let l : length (take held rx) ≡ held = length-take-le held rx (omega arith) in
    let e : n - held + length (take held rx) ≡ n = omega arith in
    ap₂ (Payload route) e l
part_back routes (Skip n) rx fit = refl
part_back routes (Transfer route left) rx fit = refl

held-there : (routes : List ℕ) (part : Part) (rx : List ℕ) → Fit routes part rx → lay rx 0 (held_in (cell_of part rx)) ≡ rx
held-there routes (Header held value) rx fit = lay-fits rx 0 [] (omega arith)
held-there routes (Payload route n held) rx fit =
    let f : (held < n) × (n ≤ length rx) = payload_fit routes (Payload route n held) rx fit route n held refl in
    let l : 0 + length (take held rx) ≡ held = omega (arith, length-take-le held rx (omega arith)) in
    lay-fits rx 0 (take held rx) (omega arith) ∙ ap (λ (k : ℕ). take held rx ++ drop k rx) l ∙ take-append-drop held rx
held-there routes (Skip n) rx fit = lay-fits rx 0 [] (omega arith)
held-there routes (Transfer route left) rx fit = lay-fits rx 0 [] (omega arith)

module _ (routes : List ℕ) (connection switches : ℕ) (part : Part) (rx : List ℕ) (fit : Fit routes part rx) where
  pub empty_take : taken_of routes connection switches part rx [] ≡ record { read = 0; outcome = More; part = part }
  unfolding taken_of took_of take_b
  empty_take = ap (λ (p : Part). record { read = 0; outcome = More; part = p }) (part_back routes part rx fit)

  pub empty_memory : rx_after routes connection switches part rx [] ≡ rx
  unfolding rx_after took_of take_b
  empty_memory = held-there routes part rx fit
