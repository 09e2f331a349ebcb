-- The answers of a take on plain values: one law for each way that a take ends.
use Prim.Native.Nat.{ℕ, zero, suc, ◌+◌, ◌-◌, ◌*◌, ◌/◌, ◌%◌, ◌^◌, ◌≤◌, ◌<◌}
use mathlib.Core.Path.{◌≡◌, refl, sym, ap, ap₂, ◌∙◌, subst}
use mathlib.Core.Bool.{Bool, true, false, ◌&&◌}
use mathlib.Core.List.{List, [], ◌∷◌, ◌++◌}
use native.Mathlib.Omega.{arith}
use borrow.Author.Tests.{leb-true, ltb-true, ne_eqb}
use lib.Dec.{leb, ltb, eqb}
use lib.ListN.{length, take, drop, length-append, length-drop}
use lib.Seq.{take-length, length-take-le}
use Rattle.reading.specs.declared.DropReason.{DropReason}
use Rattle.reading.specs.declared.Decision.TheVariants.{Accept, Refuse, Transfer as Move}
use Rattle.reading.specs.Feed.{Routes, cell, transfer, header, payload, skip, Took, spelt, take_b, decided, resume}
use Rattle.reading.proofs.Laws.{spelt-be, rest-whole, rest-short, body-whole, body-short, header-short, header-on, refused_skips}
use Rattle.reading.proofs.Laws.{skip_cell, skip-whole, skip-short, move_cell, empty, started, piece-short, piece-whole}
use Rattle.receive_part.specs.declared.Part.{Part}
use Rattle.receive_part.specs.declared.Part.TheVariants.{Header, Payload, Skip, Transfer}
use Rattle.receive_part.specs.Part.{shaped}
use Rattle.lists.proofs.Both.{and_left, and_right}
use Rattle.receive_route.specs.Route.{lookup_of}
use Rattle.receive_route.proofs.Decided.{route-accepted}
use Rattle.wire.specs.Be.{Number}
use Rattle.wire.specs.Lay.{lay}
use Rattle.wire.proofs.Join.{number-join}
use Rattle.wire.proofs.Lay.{lay-fits}
use Rattle.wire.proofs.Part.{part_to_end}
use Rattle.receive_stream.specs.declared.Outcome.{Outcome}
use Rattle.receive_stream.specs.declared.Outcome.TheVariants.{More, Pdu, Drop, Start, Piece}
use Rattle.receive_stream.specs.declared.Taken.{Taken}
use Rattle.receive_stream.specs.Stream.{cell_of, part_from, none_held, is_in_segment, id_of, Answers, took_of, taken_of}
use Rattle.receive_stream.specs.Stream.{rx_after, length_of, Limits, Fit, skip_part, move_part, start_taken, piece_taken}

abbrev pub taken_as : ℕ → Outcome → Part → Taken
taken_as n o p = record { read = n; outcome = o; part = p }

-- bytes laid after those that are held, and all of them laid at the front
pub lay-front : (rx : List ℕ) (held : ℕ) (x : List ℕ) → held + length x ≤ length rx → lay rx held x ≡ lay rx 0 (take held rx ++ x)
lay-front rx held x h =
    let n : 0 + length (take held rx ++ x) ≡ held + length x = omega (arith, length-append (take held rx) x, length-take-le held rx (omega arith)) in
    lay-fits rx held x h
    ∙ ap (λ (k : ℕ). take held rx ++ x ++ drop k rx) (sym n)
    ∙ sym (lay-fits rx 0 (take held rx ++ x) (omega arith))

-- a header that stands whole in one piece, read at once
pub at_once : (value held a b : ℕ) (bs : List ℕ) → value < 256 ^ held → held + length bs ≤ 8 → length bs ≡ 8 → Number 4 bs 0 a → Number 4 bs 4 b
    → (a * 4294967296 + b ≡ spelt value bs) × (a * 4294967296 + b < 256 ^ (held + length bs))
at_once value held a b bs small fits e x y =
    let h : held ≡ 0 = omega arith in
    let v : value ≡ 0 = omega (arith, subst (λ (k : ℕ). value < 256 ^ k) h small) in
    let w : Number 8 bs 0 (a * 256 ^ 4 + b) = number-join 4 4 x y in
    let m : 8 ≡ held + length bs = omega arith in (
      w.is ∙ omega arith ∙ sym (spelt-be 0 8 bs (omega arith)) ∙ ap₂ (λ (u k : ℕ). spelt u (take k bs)) (sym v) (sym e) ∙ ap (spelt value) (take-length bs),
      subst (λ (k : ℕ). a * 4294967296 + b < 256 ^ k) m w.small,
    )

module _ (ids : ℕ → ℕ) where
  pub move-answer : {s : Bool} {n : ℕ} {t t' : Took} {rx : List ℕ} {r : Taken} {rx' : List ℕ}
      → t ≡ t' → Answers ids s n t' rx r rx' → Answers ids s n t rx r rx'
  move-answer {s} {n} {t} {t'} {rx} {r} {rx'} e a = subst (λ (u : Took). Answers ids s n u rx r rx') (sym e) a

  -- A PAYLOAD THAT BEGINS HERE: all of it stands here, or not
  pub body-here : (R : Routes) (i r id n total : ℕ) (rx seg : List ℕ) → ids r ≡ id → n ≤ length seg → length seg ≤ total
      → Answers ids true total (resume R (decided (Accept r) i n) seg) rx
      (taken_as (total - length seg + n) (Pdu r id true (total - length seg) n) (Header 0 0)) rx
  body-here R i r id n total rx seg e le lt =
      let l : n ≡ length (take n seg) = sym (length-take-le n seg le) in
      let p : total - length seg + n ≡ total - length (drop n seg) = omega (arith, length-drop n seg) in
      let q : total - length seg ≡ total - length (drop n seg) - length (take n seg) = omega (arith, length-drop n seg) in
      move-answer (body-whole R i r n seg le)
      (record { answer = λ j. taken_as (p j) (Pdu r (sym e j) true (q j) (l j)) (Header 0 0); memory = refl })

  pub body-part : (R : Routes) (i r n total : ℕ) (rx seg rx' : List ℕ) → length seg < n → rx' ≡ lay rx 0 seg
      → Answers ids true total (resume R (decided (Accept r) i n) seg) rx (taken_as total More (Payload r n (length seg))) rx'
  body-part R i r n total rx seg rx' lt e =
      let p : total ≡ total - 0 = omega arith in
      let q : n ≡ n - length seg + length seg = omega arith in
      move-answer (body-short R i r n seg lt) (record { answer = λ j. taken_as (p j) More (Payload r (q j) (length seg)); memory = e })

  -- A PAYLOAD OF WHICH SOME IS HELD: it ends here, or not
  pub rest-here : (R : Routes) (r id n h : ℕ) (rx seg rx' : List ℕ) → ids r ≡ id
      → h < n → n ≤ length rx → n - h ≤ length seg → rx' ≡ lay rx h (take (n - h) seg)
      → Answers ids false (length seg) (take_b R (cell (n - h) (payload r (take h rx))) seg) rx (taken_as (n - h) (Pdu r id false 0 n) (Header 0 0)) rx'
  rest-here R r id n h rx seg rx' ei lt le fits e =
      let p : n - h ≡ length seg - length (drop (n - h) seg) = omega (arith, length-drop (n - h) seg) in
      let m : length (take (n - h) seg) ≡ n - h = length-take-le (n - h) seg fits in
      let l : n ≡ length (take h rx ++ take (n - h) seg) = omega (arith, length-append (take h rx) (take (n - h) seg), length-take-le h rx (omega arith)) in
      move-answer (rest-whole R r (n - h) (take h rx) seg (omega arith) fits)
      (record { answer = λ j. taken_as (p j) (Pdu r (sym ei j) false 0 (l j)) (Header 0 0); memory = e ∙ lay-front rx h (take (n - h) seg) (omega arith) })

  pub rest_part : (R : Routes) (r n h : ℕ) (rx seg rx' : List ℕ) → h < n → n ≤ length rx → length seg < n - h → rx' ≡ lay rx h seg
      → Answers ids false (length seg) (take_b R (cell (n - h) (payload r (take h rx))) seg) rx (taken_as (length seg) More (Payload r n (h + length seg))) rx'
  rest_part R r n h rx seg rx' lt le few e =
      let p : length seg ≡ length seg - 0 = omega arith in
      let l : h + length seg ≡ length (take h rx ++ seg) = omega (arith, length-append (take h rx) seg, length-take-le h rx (omega arith)) in
      let q : n ≡ n - h - length seg + length (take h rx ++ seg) = omega arith in
      move-answer (rest-short R r (n - h) (take h rx) seg few)
      (record { answer = λ j. taken_as (p j) More (Payload r (q j) (l j)); memory = e ∙ lay-front rx h seg (omega arith) })

  -- none of it is held: it is as one that begins here; some of it is held
  pub begun-here : (R : Routes) (r n h total : ℕ) (rx seg rx' : List ℕ) (t : Taken) → h ≡ 0 → h < n
      → Answers ids true total (resume R (decided (Accept r) 0 n) seg) rx t rx'
      → Answers ids (is_in_segment (cell (n - h) (payload r (take h rx)))) total (take_b R (cell (n - h) (payload r (take h rx))) seg) rx t rx'
  begun-here R r zero h total rx seg rx' t e lt a = absurd (omega arith)
  begun-here R r (suc n) h total rx seg rx' t e lt a =
      let m : suc n - h ≡ suc n = omega arith in
      let l : take h rx ≡ [] = ap (λ (k : ℕ). take k rx) e in
      subst (λ (k : ℕ). Answers ids (is_in_segment (cell k (payload r (take h rx)))) total (take_b R (cell k (payload r (take h rx))) seg) rx t rx') (sym m)
      (subst (λ (b : List ℕ). Answers ids (is_in_segment (cell (suc n) (payload r b))) total (take_b R (cell (suc n) (payload r b)) seg) rx t rx') (sym l) a)

  some-held : (rx : List ℕ) (h : ℕ) → (h ≡ 0 → ⊥) → h ≤ length rx → none_held (take h rx) ≡ false
  some-held rx zero ne le = absurd (ne refl)
  some-held [] (suc h) ne le = absurd (omega arith)
  some-held (b ∷ rx) (suc h) ne le = refl

  pub resumed : (R : Routes) (r n h total : ℕ) (rx seg rx' : List ℕ) (t : Taken) → (h ≡ 0 → ⊥) → h ≤ length rx
      → Answers ids false total (take_b R (cell (n - h) (payload r (take h rx))) seg) rx t rx'
      → Answers ids (is_in_segment (cell (n - h) (payload r (take h rx)))) total (take_b R (cell (n - h) (payload r (take h rx))) seg) rx t rx'
  resumed R r n h total rx seg rx' t ne le a =
      subst (λ (s : Bool). Answers ids s total (take_b R (cell (n - h) (payload r (take h rx))) seg) rx t rx') (sym (some-held rx h ne le)) a

  -- A HEADER: it does not end here; it ends and is dropped; it ends and is taken
  pub header-part : (R : Routes) (v h total w : ℕ) (rx seg : List ℕ) → h < 8 → length seg < 8 - h → w ≡ spelt v seg
      → Answers ids true total (take_b R (cell (8 - h) (header v)) seg) rx (taken_as total More (Header (h + length seg) w)) rx
  header-part R v h total w rx seg lt few e =
      let p : total ≡ total - 0 = omega arith in
      let q : h + length seg ≡ 8 - (8 - h - length seg) = omega arith in
      let m : rx ≡ lay rx 0 [] = sym (lay-fits rx 0 [] (omega arith)) in
      move-answer (header-short R v (8 - h) seg few)
      (record { answer = λ j. taken_as (p j) More (Header (q j) (e j)); memory = m })

  skip-part_of : (n : ℕ) → skip_part n ≡ part_from (skip_cell n)
  skip-part_of zero = refl
  skip-part_of (suc n) = refl

  pub header-dropped : (R : Routes) (v n w : ℕ) (k : DropReason) (i m total : ℕ) (rx seg : List ℕ) (p : Part)
      → 0 < n → n ≤ length seg → w ≡ spelt v (take n seg) → i ≡ w / 2 ^ 32 → m ≡ w % 2 ^ 32
      → R i m ≡ Refuse k → p ≡ skip_part m
      → Answers ids true total (take_b R (cell n (header v)) seg) rx (taken_as (total - (length seg - n)) (Drop k i m) p) rx
  header-dropped R v n w k i m total rx seg p pos le e ei em is ep =
      let q : total - (length seg - n) ≡ total - length (drop n seg) = omega (arith, length-drop n seg) in
      let u : p ≡ part_from (skip_cell m) = ep ∙ skip-part_of m in
      move-answer (header-on R v n w (Refuse k) seg pos le e (ap₂ R (sym ei) (sym em) ∙ is)
      ∙ ap₂ (λ (a b : ℕ). resume R (decided (Refuse k) a b) (drop n seg)) (sym ei) (sym em) ∙ refused_skips R k i m (drop n seg))
      (record { answer = λ j. taken_as (q j) (Drop k i m) (u j); memory = refl })

  pub header-accepted : (R : Routes) (v n w r i m total : ℕ) (rx seg rx' : List ℕ) (t : Taken)
      → 0 < n → n ≤ length seg → w ≡ spelt v (take n seg) → i ≡ w / 2 ^ 32 → m ≡ w % 2 ^ 32
      → R i m ≡ Accept r
      → Answers ids true total (resume R (decided (Accept r) i m) (take (length seg - n) (drop n seg))) rx t rx'
      → Answers ids true total (take_b R (cell n (header v)) seg) rx t rx'
  header-accepted R v n w r i m total rx seg rx' t pos le e ei em is a =
      move-answer (header-on R v n w (Accept r) seg pos le e (ap₂ R (sym ei) (sym em) ∙ is)
      ∙ ap₂ (λ (x y : ℕ). resume R (decided (Accept r) x y) (drop n seg)) (sym ei) (sym em)
      ∙ ap (resume R (decided (Accept r) i m)) (sym (part_to_end seg n))) a

  -- BYTES TO SKIP: more than stand here, or not
  pub skip-part : (R : Routes) (n : ℕ) (rx seg : List ℕ) → length seg < n
      → Answers ids true (length seg) (take_b R (cell n skip) seg) rx (taken_as (length seg) More (Skip (n - length seg))) rx
  skip-part R n rx seg few =
      let p : length seg ≡ length seg - 0 = omega arith in
      let m : rx ≡ lay rx 0 [] = sym (lay-fits rx 0 [] (omega arith)) in
      move-answer (skip-short R n seg few) (record { answer = λ j. taken_as (p j) More (Skip (n - length seg)); memory = m })

  pub skip-over : (R : Routes) (n : ℕ) (rx seg rx' : List ℕ) (t : Taken) → 0 < n → n ≤ length seg
      → Answers ids true (length seg) (take_b R (cell 8 (header 0)) (take (length seg - n) (drop n seg))) rx t rx'
      → Answers ids true (length seg) (take_b R (cell n skip) seg) rx t rx'
  skip-over R n rx seg rx' t pos le a = move-answer (skip-whole R n seg pos le ∙ ap (take_b R (cell 8 (header 0))) (sym (part_to_end seg n))) a

  -- A TRANSFER: its start; no byte of it; a piece that the segment cuts off; the last one
  move-part_of : (n r : ℕ) → move_part n r ≡ part_from (move_cell n r)
  move-part_of zero r = refl
  move-part_of (suc n) r = refl

  mark_of : (n : ℕ) → eqb n 0 ≡ empty n
  mark_of zero = refl
  mark_of (suc n) = ne_eqb (suc n) 0 (λ e. omega (arith, e))

  pub header_started : (R : Routes) (v n w r i m total : ℕ) (rx seg : List ℕ) (t : Taken)
      → 0 < n → n ≤ length seg → w ≡ spelt v (take n seg) → i ≡ w / 2 ^ 32 → m ≡ w % 2 ^ 32
      → R i m ≡ Move r → t ≡ start_taken (total - (length seg - n)) r i m
      → Answers ids true total (take_b R (cell n (header v)) seg) rx t rx
  header_started R v n w r i m total rx seg t pos le e ei em is et =
      let q : total - (length seg - n) ≡ total - length (drop n seg) = omega (arith, length-drop n seg) in
      move-answer (header-on R v n w (Move r) seg pos le e (ap₂ R (sym ei) (sym em) ∙ is)
      ∙ ap₂ (λ (a b : ℕ). resume R (decided (Move r) a b) (drop n seg)) (sym ei) (sym em) ∙ started R i r m (drop n seg))
      (record { answer = et ∙ (λ j. taken_as (q j) (Start r i m (mark_of m j)) (move-part_of m r j)); memory = refl })

  pub piece_none : (R : Routes) (n r : ℕ) (rx seg : List ℕ) → length seg ≡ 0
      → Answers ids true (length seg) (take_b R (transfer n r) seg) rx (taken_as 0 More (Transfer r n)) rx
  unfolding take_b
  piece_none R n r rx [] e = record { answer = refl; memory = sym (lay-fits rx 0 [] (omega arith)) }
  piece_none R n r rx (b ∷ seg) e = absurd (omega arith)

  pub piece-part : (R : Routes) (n r id : ℕ) (rx seg : List ℕ) (t : Taken) → ids r ≡ id
      → 0 < length seg → length seg < n → t ≡ piece_taken (length seg) r id (n - length seg)
      → Answers ids true (length seg) (take_b R (transfer n r) seg) rx t rx
  piece-part R n r id rx seg t ei pos few et =
      let p : length seg ≡ length seg - 0 = omega arith in
      let q : 0 ≡ length seg - 0 - length seg = omega arith in
      let some : 0 < n - length seg = omega arith in
      move-answer (piece-short R n r seg pos few)
      (record {
        answer = et ∙ still (n - length seg) some
            ∙ (λ j. taken_as (p j) (Piece r (sym ei j) (q j) (length seg) false) (Transfer r (n - length seg)));
        memory = refl;
      })
    where
      still : (left : ℕ) → 0 < left → piece_taken (length seg) r id left ≡ taken_as (length seg) (Piece r id 0 (length seg) false) (Transfer r left)
      still zero h = absurd (omega arith)
      still (suc left) h = ap (λ (m : Bool). taken_as (length seg) (Piece r id 0 (length seg) m) (Transfer r (suc left))) (mark_of (suc left))

  pub piece_last : (R : Routes) (n r id : ℕ) (rx seg : List ℕ) (t : Taken) → ids r ≡ id → 0 < n → n ≤ length seg → t ≡ piece_taken n r id 0
      → Answers ids true (length seg) (take_b R (transfer n r) seg) rx t rx
  piece_last R n r id rx seg t ei pos le et =
      let l : n ≡ length (take n seg) = sym (length-take-le n seg le) in
      let p : n ≡ length seg - length (drop n seg) = omega (arith, length-drop n seg) in
      let q : 0 ≡ length seg - length (drop n seg) - length (take n seg) = omega (arith, length-drop n seg) in
      move-answer (piece-whole R n r seg pos le)
      (record { answer = et ∙ (λ j. taken_as (p j) (Piece r (sym ei j) (q j) (l j) true) (Header 0 0)); memory = refl })

pub skip-left : (n : ℕ) → (n ≡ 0 → ⊥) → Skip n ≡ skip_part n
skip-left zero h = absurd (h refl)
skip-left (suc n) h = refl

pub move-left : (n r : ℕ) → (n ≡ 0 → ⊥) → Transfer r n ≡ move_part n r
move-left zero r h = absurd (h refl)
move-left (suc n) r h = refl

-- WHAT A TAKE ASKS, by the kind of part
module _ (routes : List ℕ) (part : Part) (rx : List ℕ) (fit : Fit routes part rx) where
  shape_at : {p : Part} → part ≡ p → shaped p ≡ true
  shape_at e = subst (λ (q : Part). shaped q ≡ true) e fit.shape

  pub header_fit : (held value : ℕ) → part ≡ Header held value → (held < 8) × (value < 256 ^ held)
  header_fit held value e =
      let s : (leb held 7 && ltb value (256 ^ held)) ≡ true = shape_at e in
      (omega (arith, leb-true held 7 (and_left _ _ s)), ltb-true value (256 ^ held) (and_right (leb held 7) _ s))

  pub payload_fit : (route n held : ℕ) → part ≡ Payload route n held → (held < n) × (n ≤ length rx)
  payload_fit route n held e =
      let l : n ≤ 1464 = subst (λ (q : Part). length_of q ≤ 1464) e fit.fits in
      (ltb-true held n (shape_at e), omega (arith, fit.room))

  pub skip_fit : (n : ℕ) → part ≡ Skip n → 0 < n
  skip_fit n e = ltb-true 0 n (shape_at e)

  pub transfer_fit : (route left : ℕ) → part ≡ Transfer route left → 0 < left
  transfer_fit route left e = ltb-true 0 left (shape_at e)

-- an accepted header's length is within the limits, and its id is its route's
module _ (routes : List ℕ) (connection switches i n r : ℕ) (is : lookup_of routes connection switches i n ≡ Accept r) where
  pub accepted-short : Limits routes → n ≤ 1464
  accepted-short most = omega (arith, (route-accepted routes connection switches i n r is).fits, most r)

  pub accepted-id : id_of routes r ≡ i
  accepted-id = (route-accepted routes connection switches i n r is).bears.named

-- the answer and receive memory of the whole take, at a part of a known kind
pub at_part : (routes : List ℕ) (connection switches : ℕ) (rx segment rx' : List ℕ) (t : Taken) {part p : Part} → part ≡ p
    → Answers (id_of routes) (is_in_segment (cell_of p rx)) (length segment) (take_b (lookup_of routes connection switches) (cell_of p rx) segment) rx t rx'
    → (t ≡ taken_of routes connection switches part rx segment) × (rx' ≡ rx_after routes connection switches part rx segment)
unfolding taken_of rx_after took_of
at_part routes connection switches rx segment rx' t {part} {p} e a =
    subst (λ (q : Part). (t ≡ taken_of routes connection switches q rx segment) × (rx' ≡ rx_after routes connection switches q rx segment))
    (sym e) (a.answer, a.memory)
