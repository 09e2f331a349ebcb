-- The split: nothing is lost, what was framed is found again, and what comes after whole PDUs is split by itself.
use Prim.Native.Nat.{ℕ, zero, suc, ◌+◌, ◌≤◌}
use mathlib.Core.Path.{◌≡◌, refl, sym, ap, ap₂, ◌∙◌}
use mathlib.Core.List.{List, [], ◌∷◌, ◌++◌, append_assoc, append-nil}
use native.Mathlib.Omega.{arith}
use lib.ListN.{length, take, drop, length-append, length-drop, take-append-drop}
use lib.Seq.{length-take-le, drop-drop, take-append_seam, drop-append_seam, drop-append-add}
use Rattle.wire.specs.Be.{be}
use Rattle.wire.specs.Lay.{spell}
use Rattle.wire.proofs.Spell.{length-spell, be-spell, spell-be}
use Rattle.frame.specs.Frame.{frame, Sent, frames, Fits, AllFit}
use Rattle.reading_lengths.specs.Head.{Head, ended, short, beyond, whole, head_of}
use Rattle.reading_lengths.specs.Split.{sent, Split, before, split_by, splits, split}
use Rattle.reading_lengths.specs.Listed.{Bytes}
use Rattle.reading_lengths.proofs.Heads.{View, at-whole, view, head-end, head-whole}
use Rattle.reading_lengths.proofs.Bytes.{be-small, bytes_drop}

-- as many turns as bytes are enough
splits_enough : (f g : ℕ) (l : List ℕ) → length l ≤ f → length l ≤ g → splits f l ≡ splits g l
unfolding splits
splits_enough zero zero l a b = refl
splits_enough zero (suc g) l a b = rw (sym (head-end l (omega arith)))
splits_enough (suc f) zero l a b = rw (sym (head-end l (omega arith)))
splits_enough (suc f) (suc g) l a b = go (λ n p q. splits_enough f g (drop (8 + n) l) p q) (head_of l) (view l)
  where
    go : ((n : ℕ) → length (drop (8 + n) l) ≤ f → length (drop (8 + n) l) ≤ g → splits f (drop (8 + n) l) ≡ splits g (drop (8 + n) l))
        → (h : Head) → View l h → split_by (splits f) l h ≡ split_by (splits g) l h
    go more ended v = refl
    go more short v = refl
    go more (beyond i n) v = refl
    go more (whole i n) (at-whole w) =
        ap (before (sent i (take n (drop 8 l)))) (more n (omega (arith, length-drop (8 + n) l)) (omega (arith, length-drop (8 + n) l)))

pub split_enough : (f : ℕ) (l : List ℕ) → length l ≤ f → splits f l ≡ split l
unfolding split
split_enough f l h = splits_enough f (length l) l h (omega arith)

-- NOTHING IS LOST: the PDUs framed again, and the rest, are the bytes
header_is : (l : List ℕ) → Bytes l → 8 ≤ length l → spell 4 (be 4 l 0) ++ (spell 4 (be 4 l 4) ++ drop 8 l) ≡ l
header_is l b h =
    ap₂ (λ (x y : List ℕ). x ++ (y ++ drop 8 l)) (spell-be 4 l 0 (omega arith) b) (spell-be 4 l 4 (omega arith) b)
    ∙ ap (λ (x : List ℕ). take 4 l ++ (take 4 (drop 4 l) ++ x)) (sym (drop-drop 4 4 l))
    ∙ ap (λ (x : List ℕ). take 4 l ++ x) (take-append-drop 4 (drop 4 l))
    ∙ take-append-drop 4 l

nothing-lost : (f : ℕ) (l : List ℕ) → Bytes l → frames (splits f l).pdus ++ (splits f l).rest ≡ l
unfolding splits frames frame
nothing-lost zero l b = refl
nothing-lost (suc f) l b = go (λ n. nothing-lost f (drop (8 + n) l) (bytes_drop (8 + n) l b)) (head_of l) (view l)
  where
    go : ((n : ℕ) → frames (splits f (drop (8 + n) l)).pdus ++ (splits f (drop (8 + n) l)).rest ≡ drop (8 + n) l)
        → (h : Head) → View l h → frames (split_by (splits f) l h).pdus ++ (split_by (splits f) l h).rest ≡ l
    go more ended v = refl
    go more short v = refl
    go more (beyond i n) v = refl
    go more (whole i n) (at-whole w) =
        let p : List ℕ = take n (drop 8 l) in
        let size : length p ≡ n = length-take-le n (drop 8 l) (omega (arith, length-drop 8 l)) in
        append_assoc (frame i p) (frames (splits f (drop (8 + n) l)).pdus) (splits f (drop (8 + n) l)).rest
        ∙ ap (λ (x : List ℕ). frame i p ++ x) (more n)
        ∙ append_assoc (spell 4 i) (spell 4 (length p) ++ p) (drop (8 + n) l)
        ∙ ap (λ (x : List ℕ). spell 4 i ++ x) (append_assoc (spell 4 (length p)) p (drop (8 + n) l))
        ∙ ap₂ (λ (k : ℕ) (x : List ℕ). spell 4 i ++ (spell 4 k ++ (p ++ x))) size (sym (drop-drop n 8 l))
        ∙ ap (λ (x : List ℕ). spell 4 i ++ (spell 4 n ++ x)) (take-append-drop n (drop 8 l))
        ∙ header_is l b (omega arith)

pub split_keeps : (l : List ℕ) → Bytes l → frames (split l).pdus ++ (split l).rest ≡ l
unfolding split
split_keeps l b = nothing-lost (length l) l b

-- WHAT WAS FRAMED IS FOUND AGAIN, and what stands behind it is split by itself
parts : (s : Sent) (r : List ℕ) → frame s.id s.body ++ r ≡ spell 4 s.id ++ (spell 4 (length s.body) ++ (s.body ++ r))
unfolding frame
parts s r =
    append_assoc (spell 4 s.id) (spell 4 (length s.body) ++ s.body) r
    ∙ ap (λ (l : List ℕ). spell 4 s.id ++ l) (append_assoc (spell 4 (length s.body)) s.body r)

pub frame-long : (s : Sent) (r : List ℕ) → length (frame s.id s.body ++ r) ≡ 8 + length s.body + length r
frame-long s r =
    ap length (parts s r)
    ∙ length-append (spell 4 s.id) (spell 4 (length s.body) ++ (s.body ++ r))
    ∙ omega (
      arith,
      length-spell 4 s.id,
      length-spell 4 (length s.body),
      length-append (spell 4 (length s.body)) (s.body ++ r),
      length-append s.body r,
    )

pub frame-body : (s : Sent) (r : List ℕ) → drop 8 (frame s.id s.body ++ r) ≡ s.body ++ r
frame-body s r =
    let x : List ℕ = spell 4 (length s.body) ++ (s.body ++ r) in
    ap (drop 8) (parts s r)
    ∙ ap (λ (k : ℕ). drop (k + 4) (spell 4 s.id ++ x)) (sym (length-spell 4 s.id))
    ∙ drop-append-add (spell 4 s.id) x 4
    ∙ ap (λ (k : ℕ). drop k x) (sym (length-spell 4 (length s.body)))
    ∙ drop-append_seam (spell 4 (length s.body)) (s.body ++ r)

pub head-frame : (s : Sent) (r : List ℕ) → Fits s → whole s.id (length s.body) ≡ head_of (frame s.id s.body ++ r)
head-frame s r fits =
    let l : List ℕ = frame s.id s.body ++ r in
    let e = parts s r in
    head-whole l s.id (length s.body) (omega (arith, frame-long s r))
    (sym (ap (λ (x : List ℕ). be 4 x 0) e ∙ be-spell 4 s.id [] (spell 4 (length s.body) ++ (s.body ++ r)) fits.id_fits))
    (sym
    (ap₂ (be 4) e (sym (length-spell 4 s.id)) ∙ be-spell 4 (length s.body) (spell 4 s.id) (s.body ++ r) fits.length-fits))
    (omega (arith, frame-long s r))

-- the bytes behind a frame, as the split reaches them
frame_past : (s : Sent) (r : List ℕ) → drop (8 + length s.body) (frame s.id s.body ++ r) ≡ r
frame_past s r =
    sym (drop-drop (length s.body) 8 (frame s.id s.body ++ r)) ∙ ap (drop (length s.body)) (frame-body s r) ∙ drop-append_seam s.body r

abbrev behind_all : List Sent → Split → Split
behind_all [] r = r
behind_all (s ∷ ss) r = before s (behind_all ss r)

splits-frames : (ss : List Sent) (f : ℕ) (l : List ℕ) → AllFit ss → length (frames ss ++ l) ≤ f → splits f (frames ss ++ l) ≡ behind_all ss (split l)
unfolding splits frames
splits-frames [] f l ok le = split_enough f l le
splits-frames (s ∷ ss) zero l ok le =
    absurd (omega (arith, ap length (append_assoc (frame s.id s.body) (frames ss) l), frame-long s (frames ss ++ l)))
splits-frames (s ∷ ss) (suc f) l ok le =
    let p : List ℕ = s.body in
    let r : List ℕ = frames ss ++ l in
    let e : (frame s.id p ++ frames ss) ++ l ≡ frame s.id p ++ r = append_assoc (frame s.id p) (frames ss) l in
    ap (λ (x : List ℕ). split_by (splits f) x (head_of x)) e
    ∙ ap (split_by (splits f) (frame s.id p ++ r)) (sym (head-frame s r ok.0))
    ∙ ap₂ (λ (x y : List ℕ). before (sent s.id (take (length p) x)) (splits f y)) (frame-body s r) (frame_past s r)
    ∙ ap₂ (λ (x : List ℕ) (y : Split). before (sent s.id x) y) (take-append_seam p r)
    (splits-frames ss f l ok.1 (omega (arith, ap length e, frame-long s r)))

all-behind : (ss : List Sent) (r : Split) → behind_all ss r ≡ record { pdus = ss ++ r.pdus; rest = r.rest }
all-behind [] r = refl
all-behind (s ∷ ss) r = ap (before s) (all-behind ss r)

pub split-frames : (ss : List Sent) (l : List ℕ) → AllFit ss → split (frames ss ++ l) ≡ record { pdus = ss ++ (split l).pdus; rest = (split l).rest }
split-frames ss l ok =
    sym (split_enough (length (frames ss ++ l)) (frames ss ++ l) (omega arith))
    ∙ splits-frames ss (length (frames ss ++ l)) l ok (omega arith)
    ∙ all-behind ss (split l)

-- BYTES THAT END WITH A PDU: what comes behind them is split by itself
fits_all : (f : ℕ) (l : List ℕ) → Bytes l → AllFit (splits f l).pdus
unfolding splits
fits_all zero l b = tt
fits_all (suc f) l b = go (λ n. fits_all f (drop (8 + n) l) (bytes_drop (8 + n) l b)) (head_of l) (view l)
  where
    go : ((n : ℕ) → AllFit (splits f (drop (8 + n) l)).pdus) → (h : Head) → View l h → AllFit (split_by (splits f) l h).pdus
    go more ended v = tt
    go more short v = tt
    go more (beyond i n) v = tt
    go more (whole i n) (at-whole w) =
        let size : length (take n (drop 8 l)) ≡ n = length-take-le n (drop 8 l) (omega (arith, length-drop 8 l)) in
        (record { id_fits = be-small 4 l 0 b; length-fits = rw size (be-small 4 l 4 b) }, more n)

pub split-fits : (l : List ℕ) → Bytes l → AllFit (split l).pdus
unfolding split
split-fits l b = fits_all (length l) l b

pub split-append : (a b : List ℕ) → Bytes a → (split a).rest ≡ [] → split (a ++ b) ≡ record { pdus = (split a).pdus ++ (split b).pdus; rest = (split b).rest }
split-append a b h e =
    let is : a ≡ frames (split a).pdus =
    sym (split_keeps a h) ∙ ap (λ (r : List ℕ). frames (split a).pdus ++ r) e ∙ append-nil (frames (split a).pdus) in
    ap (λ (x : List ℕ). split (x ++ b)) is ∙ split-frames (split a).pdus b (split-fits a h)
