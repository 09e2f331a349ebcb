-- WORDS JOINED (R18.4) AND THE WORDS OF SHEETS (R18.3): joining is associative, the words that force nothing do nothing, the words of two sheets one after
-- the other are the words of each, joined; and no sheet's words have a bit in both.
use Prim.Native.Nat.{ℕ, zero, suc, ◌+◌, ◌<◌, ◌≤◌, ◌^◌}
use mathlib.Core.Path.{◌≡◌, refl, sym, ap, subst, ◌∙◌}
use mathlib.Core.Bool.{Bool, true, false, cond}
use Rattle.std.proofs.Common.{Ok}
use mathlib.Core.List.{List, [], ◌∷◌, ◌++◌}
use native.Mathlib.Omega.{arith}
use lib.Dec.{ltb}
use native.Mathlib.Decide.{ℕ_discrete, dec_lt}
use lib.ListN.{length, get_or, length-set, get_or-replicate, get_or-eq_default}
use lib.Seq.{ext_get_or, get_or-set_same, get_or-set_other, set-set, set_comm}
use Rattle.lists.specs.Each.{each, all_from}
use Rattle.lists.proofs.Each.{all-at, each-length, each_all, one_at}
use Rattle.lists.proofs.Both.{and_both}
use Rattle.sheet.specs.declared.Pair.{Pair}
use Rattle.sheet.specs.declared.Words.{Words}
use Rattle.sheet.specs.declared.Switching.{Switching}
use Rattle.sheet.specs.Force.{force_then, force_none, force_one, no_words, pair_at, with_pair, join_at, join_words, never_twice, agreeing}
use Rattle.sheet.specs.Sheet.{switching, sheet_switches, unfit, fit_from, switch_there, add_switch, sheet_from, sheet_words}
use Rattle.sheet.proofs.Pairs.{Apart, apart_from, apart-to, then_assoc, then_none, none_then}
use Rattle.sheet.proofs.Pairs.{then_apart, none_apart, one_apart, then_width, one_width, one-twice, one-swap}
use Rattle.sheet.proofs.Turns.{there-row, there_below}

-- a switch by its parts
abbrev pub at : ℕ → ℕ → Bool → Switching
at c n on = record { connection = c; number = n; on = on }

-- sixteen pairs
abbrev pub Full : Words → Type 0
Full ws = length ws.pairs ≡ 16

-- words are told by their pairs
pub same_words : (a b : Words) → Full a → Full b → ((i : ℕ) → i < 16 → pair_at a i ≡ pair_at b i) → a ≡ b
same_words a b f g h = ap (λ (l : List Pair). record { pairs = l }) (ext_get_or force_none a.pairs b.pairs (f ∙ sym g) (λ i l. h i (omega arith)))

each-here : (f : ℕ → Pair → Pair) (k i : ℕ) (xs : List Pair) → i < length xs → get_or (each f k xs) i force_none ≡ f (k + i) (get_or xs i force_none)
each-here f k i [] h = absurd (omega arith)
each-here f k zero (x ∷ xs) h = let e : k ≡ k + 0 = omega arith in ap (λ (n : ℕ). f n x) e
each-here f k (suc i) (x ∷ xs) h =
    let e : suc k + i ≡ k + suc i = omega arith in
    each-here f (suc k) i xs (omega arith) ∙ ap (λ (n : ℕ). f n (get_or xs i force_none)) e

pub join-full : (a b : Words) → Full a → Full (join_words a b)
unfolding join_words
join-full a b f = ap length (sym (each_all (join_at b) 0 a.pairs)) ∙ each-length (join_at b) 0 (length a.pairs) a.pairs ∙ f

pub join-at : (a b : Words) (i : ℕ) → Full a → i < 16 → pair_at (join_words a b) i ≡ force_then (pair_at a i) (pair_at b i)
unfolding join_words
join-at a b i f h =
    let z : 0 + i ≡ i = omega arith in
    each-here (join_at b) 0 i a.pairs (omega arith) ∙ ap (λ (n : ℕ). join_at b n (pair_at a i)) z

pub no_full : Full no_words
no_full = refl

-- no pair forces a bit on and off
abbrev pub AllApart : Words → Type 0
AllApart ws = (i : ℕ) → i < 16 → Apart (pair_at ws i)

pub agreeing_from : (ws : Words) → Full ws → agreeing ws ≡ true → AllApart ws
unfolding agreeing
agreeing_from ws f e i h =
    let z : 0 + i ≡ i = omega arith in
    apart_from (0 + i) (pair_at ws i) (all-at never_twice 0 i ws.pairs force_none e (omega arith))

all_apart : (k : ℕ) (ps : List Pair) → ((i : ℕ) → i < length ps → Apart (get_or ps i force_none)) → all_from never_twice k ps ≡ true
all_apart k [] h = refl
all_apart k (p ∷ ps) h = and_both (apart-to k p (h 0 (omega arith))) (all_apart (suc k) ps (λ i l. h (suc i) (omega arith)))

pub agreeing-to : (ws : Words) → Full ws → AllApart ws → agreeing ws ≡ true
unfolding agreeing
agreeing-to ws f h = all_apart 0 ws.pairs (λ i l. h i (omega arith))

-- the pairs of the words that force nothing
pub no_at : (i : ℕ) → pair_at no_words i ≡ force_none
no_at i = go (dec_lt i 16)
  where
    go : Dec (i < 16) → pair_at no_words i ≡ force_none
    go (yes h) = get_or-replicate 16 i force_none force_none h
    go (no h) = let l : 16 ≤ i = omega arith in get_or-eq_default no_words.pairs force_none l

-- R18.4: the words that force nothing do nothing, behind others and before them
pub join_none : (a : Words) → Full a → join_words a no_words ≡ a
join_none a f =
    same_words _ _ (join-full a no_words f) f
    (λ i h. join-at a no_words i f h ∙ ap (force_then (pair_at a i)) (no_at i) ∙ then_none (pair_at a i))

pub none_join : (b : Words) → Full b → agreeing b ≡ true → join_words no_words b ≡ b
none_join b f e =
    same_words _ _ (join-full no_words b no_full) f
    (λ i h. join-at no_words b i no_full h ∙ ap (λ (p : Pair). force_then p (pair_at b i)) (no_at i) ∙ none_then (pair_at b i) (agreeing_from b f e i h))

-- R18.4: joining is associative
pub join_assoc : (a b c : Words) → Full a → Full b → join_words (join_words a b) c ≡ join_words a (join_words b c)
join_assoc a b c f g =
    same_words _ _ (join-full (join_words a b) c (join-full a b f)) (join-full a (join_words b c) f)
    (λ i h. join-at (join_words a b) c i (join-full a b f) h ∙ ap (λ (p : Pair). force_then p (pair_at c i)) (join-at a b i f h)
    ∙ then_assoc (pair_at a i) (pair_at b i) (pair_at c i)
    ∙ sym (join-at a (join_words b c) i f h ∙ ap (force_then (pair_at a i)) (join-at b c i g h)))

module _ (rows : ℕ) where
  -- one switch more: its own pair, or none
  module _ (ws : Words) (s : Switching) where
    pub add-there : switch_there rows s ≡ true → add_switch rows ws s
        ≡ with_pair s.connection (force_then (pair_at ws s.connection) (force_one s.number s.on)) ws
    unfolding add_switch
    add-there e = rw e

    pub add_missing : switch_there rows s ≡ false → add_switch rows ws s ≡ ws
    unfolding add_switch
    add_missing e = rw e

    pub add-full : Full ws → Full (add_switch rows ws s)
    add-full f = go (switch_there rows s) refl
      where
        go : (b : Bool) → switch_there rows s ≡ b → Full (add_switch rows ws s)
        go true e = ap (λ (w : Words). length w.pairs) (add-there e) ∙ length-set ws.pairs s.connection _ ∙ f
        go false e = ap (λ (w : Words). length w.pairs) (add_missing e) ∙ f

    -- what every pair has that the switches leave it
    pub add-each : (P : Pair → Type 0) (i : ℕ) → (switch_there rows s ≡ true → s.connection ≡ i → P (pair_at ws i)
        → P (force_then (pair_at ws i) (force_one s.number s.on)))
        → P (pair_at ws i) → P (pair_at (add_switch rows ws s) i)
    add-each P i step p = go (switch_there rows s) refl
      where
        go : (b : Bool) → switch_there rows s ≡ b → P (pair_at (add_switch rows ws s) i)
        go true e =
            subst (λ (w : Words). P (pair_at w i)) (sym (add-there e))
            (one_at force_none ws.pairs s.connection i _ P
            (λ q. subst (λ (k : ℕ). P (force_then (pair_at ws k) (force_one s.number s.on))) (sym q) (step e q p)) p)
        go false e = subst (λ (w : Words). P (pair_at w i)) (sym (add_missing e)) p

  -- one switch more is its own words joined behind
  add-join : (ws : Words) (s : Switching) → Full ws → add_switch rows ws s ≡ join_words ws (add_switch rows no_words s)
  add-join ws s f = go (switch_there rows s) refl
    where
      one : Pair
      one = force_one s.number s.on

      own : switch_there rows s ≡ true → (i : ℕ) → Dec (i ≡ s.connection) → i < 16
          → pair_at (with_pair s.connection (force_then (pair_at ws s.connection) one) ws) i
          ≡ force_then (pair_at ws i) (pair_at (with_pair s.connection (force_then (pair_at no_words s.connection) one) no_words) i)
      own e i (yes q) h =
          let c = there_below rows s e in
          ap (λ (k : ℕ). pair_at (with_pair s.connection (force_then (pair_at ws s.connection) one) ws) k) q
          ∙ get_or-set_same ws.pairs s.connection _ force_none (omega arith)
          ∙ ap (force_then (pair_at ws s.connection))
          (sym (ap (λ (p : Pair). force_then p one) (no_at s.connection) ∙ none_then one (one_apart s.number s.on))
          ∙ sym (get_or-set_same no_words.pairs s.connection _ force_none c))
          ∙ ap (λ (k : ℕ). force_then (pair_at ws k) (pair_at (with_pair s.connection (force_then (pair_at no_words s.connection) one) no_words) k)) (sym q)
      own e i (no ne) h =
          get_or-set_other ws.pairs s.connection i _ force_none ne
          ∙ sym (ap (force_then (pair_at ws i)) (get_or-set_other no_words.pairs s.connection i _ force_none ne ∙ no_at i) ∙ then_none (pair_at ws i))

      go : (b : Bool) → switch_there rows s ≡ b → add_switch rows ws s ≡ join_words ws (add_switch rows no_words s)
      go true e =
          same_words _ _ (add-full ws s f) (join-full ws _ f)
          (λ i h. ap (λ (w : Words). pair_at w i) (add-there ws s e) ∙ own e i (ℕ_discrete i s.connection) h
          ∙ sym (join-at ws _ i f h ∙ ap (λ (w : Words). force_then (pair_at ws i) (pair_at w i)) (add-there no_words s e)))
      go false e = add_missing ws s e ∙ sym (ap (join_words ws) (add_missing no_words s e) ∙ join_none ws f)

  pub from_full : (ws : Words) (ss : List Switching) → Full ws → Full (sheet_from rows ws ss)
  unfolding sheet_from
  from_full ws [] f = f
  from_full ws (s ∷ ss) f = from_full (add_switch rows ws s) ss (add-full ws s f)

  pub words_full : (ss : List Switching) → Full (sheet_words rows ss)
  words_full ss = from_full no_words ss no_full

  -- what the switches leave to every pair that has it
  pub from_each : (P : Pair → Type 0) → ((p : Pair) (n : ℕ) (b : Bool) → P p → P (force_then p (force_one n b))) → (ws : Words) (ss : List Switching) (i : ℕ)
      → P (pair_at ws i) → P (pair_at (sheet_from rows ws ss) i)
  unfolding sheet_from
  from_each P step ws [] i p = p
  from_each P step ws (s ∷ ss) i p = from_each P step (add_switch rows ws s) ss i (add-each ws s P i (λ _ _ q. step (pair_at ws i) s.number s.on q) p)

  pub words_each : (P : Pair → Type 0) → P force_none → ((p : Pair) (n : ℕ) (b : Bool) → P p → P (force_then p (force_one n b))) → (ss : List Switching) (i : ℕ)
      → P (pair_at (sheet_words rows ss) i)
  words_each P none step ss i = from_each P step no_words ss i (subst P (sym (no_at i)) none)

  -- R18.5: the words of a sheet have no bit in both
  pub words_apart : (ss : List Switching) → AllApart (sheet_words rows ss)
  words_apart ss i h = words_each Apart none_apart (λ p n b q. then_apart p (force_one n b) q (one_apart n b)) ss i

  pub words_agree : (ss : List Switching) → agreeing (sheet_words rows ss) ≡ true
  words_agree ss = agreeing-to (sheet_words rows ss) (words_full ss) (words_apart ss)

  -- they are 32 bits wide
  pub words_width : (ss : List Switching) (i : ℕ) → ((pair_at (sheet_words rows ss) i).on < 2 ^ 32) × ((pair_at (sheet_words rows ss) i).off < 2 ^ 32)
  words_width ss i =
      words_each (λ (p : Pair). (p.on < 2 ^ 32) × (p.off < 2 ^ 32)) (omega arith, omega arith)
      (λ p n b q. then_width 32 p (force_one n b) q.0 q.1 (one_width n b).0 (one_width n b).1) ss i

  -- and force nothing past the rows
  from_past : (ws : Words) (ss : List Switching) (i : ℕ) → rows ≤ i → pair_at ws i ≡ force_none → pair_at (sheet_from rows ws ss) i ≡ force_none
  unfolding sheet_from
  from_past ws [] i h p = p
  from_past ws (s ∷ ss) i h p =
      from_past (add_switch rows ws s) ss i h
      (add-each ws s (λ (q : Pair). q ≡ force_none) i (λ e c _. let l = there-row rows s e in absurd (omega arith)) p)

  pub words_past : (ss : List Switching) (i : ℕ) → rows ≤ i → pair_at (sheet_words rows ss) i ≡ force_none
  words_past ss i h = from_past no_words ss i h (no_at i)

  -- R18.4: switches behind words are the switches' own words, joined behind
  pub from_join : (ws : Words) (ss : List Switching) → Full ws → sheet_from rows ws ss ≡ join_words ws (sheet_words rows ss)
  unfolding sheet_from
  from_join ws [] f = sym (join_none ws f)
  from_join ws (s ∷ ss) f =
      from_join (add_switch rows ws s) ss (add-full ws s f)
      ∙ ap (λ (w : Words). join_words w (sheet_words rows ss)) (add-join ws s f)
      ∙ join_assoc ws (add_switch rows no_words s) (sheet_words rows ss) f (add-full no_words s no_full)
      ∙ ap (join_words ws) (sym (from_join (add_switch rows no_words s) ss (add-full no_words s no_full)))

  from_append : (ws : Words) (ss ts : List Switching) → sheet_from rows ws (ss ++ ts) ≡ sheet_from rows (sheet_from rows ws ss) ts
  unfolding sheet_from
  from_append ws [] ts = refl
  from_append ws (s ∷ ss) ts = from_append (add_switch rows ws s) ss ts

  pub words_append : (ss ts : List Switching) → sheet_words rows (ss ++ ts) ≡ join_words (sheet_words rows ss) (sheet_words rows ts)
  words_append ss ts = from_append no_words ss ts ∙ from_join (sheet_words rows ss) ts (words_full ss)

  -- R18.8: the same switch twice is the last one
  pub add_twice : (ws : Words) (c n : ℕ) (a b : Bool) → Full ws → add_switch rows (add_switch rows ws (at c n a)) (at c n b) ≡ add_switch rows ws (at c n b)
  add_twice ws c n a b f = go (switch_there rows (at c n b)) refl
    where
      go : (x : Bool) → switch_there rows (at c n b) ≡ x → add_switch rows (add_switch rows ws (at c n a)) (at c n b) ≡ add_switch rows ws (at c n b)
      go true e =
          let h = there_below rows (at c n b) e in
          let first = force_then (pair_at ws c) (force_one n a) in
          ap (λ (w : Words). add_switch rows w (at c n b)) (add-there ws (at c n a) e) ∙ add-there (with_pair c first ws) (at c n b) e
          ∙ ap (λ (p : Pair). with_pair c (force_then p (force_one n b)) (with_pair c first ws)) (get_or-set_same ws.pairs c first force_none (omega arith))
          ∙ ap (λ (l : List Pair). record { pairs = l }) (set-set ws.pairs c first _)
          ∙ ap (λ (p : Pair). with_pair c p ws) (then_assoc (pair_at ws c) (force_one n a) (force_one n b) ∙ ap (force_then (pair_at ws c)) (one-twice n a b))
          ∙ sym (add-there ws (at c n b) e)
      go false e = ap (λ (w : Words). add_switch rows w (at c n b)) (add_missing ws (at c n a) e)

  -- R18.8: different switches, or the same of different connections, may change places
  pub add-swap : (ws : Words) (s t : Switching) → (s.connection ≡ t.connection → s.number ≡ t.number → ⊥) → Full ws
      → add_switch rows (add_switch rows ws s) t ≡ add_switch rows (add_switch rows ws t) s
  add-swap ws s t ne f = go (switch_there rows s) refl (switch_there rows t) refl
    where
      c : ℕ
      c = s.connection

      k : ℕ
      k = t.connection

      p : Pair
      p = force_one s.number s.on

      q : Pair
      q = force_one t.number t.on

      twice : (w : Words) (s t : Switching) → switch_there rows s ≡ true → switch_there rows t ≡ true
          → add_switch rows (add_switch rows w s) t ≡ with_pair t.connection
          (force_then (pair_at (with_pair s.connection (force_then (pair_at w s.connection) (force_one s.number s.on)) w) t.connection)
          (force_one t.number t.on)) (with_pair s.connection (force_then (pair_at w s.connection) (force_one s.number s.on)) w)
      twice w s t e g = ap (λ (w : Words). add_switch rows w t) (add-there w s e) ∙ add-there _ t g

      apart : (c k : ℕ) (p q : Pair) → (k ≡ c → ⊥)
          → with_pair k (force_then (pair_at (with_pair c (force_then (pair_at ws c) p) ws) k) q) (with_pair c (force_then (pair_at ws c) p) ws)
          ≡ with_pair k (force_then (pair_at ws k) q) (with_pair c (force_then (pair_at ws c) p) ws)
      apart c k p q d = ap (λ (x : Pair). with_pair k (force_then x q) (with_pair c (force_then (pair_at ws c) p) ws))
          (get_or-set_other ws.pairs c k _ force_none d)

      one : (c : ℕ) (p q : Pair) → c < 16 → with_pair c (force_then (pair_at (with_pair c (force_then (pair_at ws c) p) ws) c) q)
          (with_pair c (force_then (pair_at ws c) p) ws) ≡ with_pair c (force_then (pair_at ws c) (force_then p q)) ws
      one c p q h =
          ap (λ (x : Pair). with_pair c (force_then x q) (with_pair c (force_then (pair_at ws c) p) ws)) (get_or-set_same ws.pairs c _ force_none (omega arith))
          ∙ ap (λ (l : List Pair). record { pairs = l }) (set-set ws.pairs c _ _) ∙ ap (λ (x : Pair). with_pair c x ws) (then_assoc (pair_at ws c) p q)

      same : Dec (c ≡ k) → switch_there rows s ≡ true → switch_there rows t ≡ true
          → add_switch rows (add_switch rows ws s) t ≡ add_switch rows (add_switch rows ws t) s
      same (no d) e g =
          twice ws s t e g ∙ apart c k p q (λ x. d (sym x)) ∙ ap (λ (l : List Pair). record { pairs = l }) (set_comm ws.pairs c k _ _ d)
          ∙ sym (twice ws t s g e ∙ apart k c q p d)
      same (yes d) e g =
          let h = there_below rows s e in
          twice ws s t e g
          ∙ ap (λ (i : ℕ). with_pair i (force_then (pair_at (with_pair c (force_then (pair_at ws c) p) ws) i) q)
          (with_pair c (force_then (pair_at ws c) p) ws)) (sym d)
          ∙ one c p q h ∙ ap (λ (x : Pair). with_pair c (force_then (pair_at ws c) x) ws) (one-swap s.number t.number s.on t.on (ne d))
          ∙ sym (one c q p h)
          ∙ ap (λ (i : ℕ). with_pair c (force_then (pair_at (with_pair i (force_then (pair_at ws i) q) ws) c) p)
          (with_pair i (force_then (pair_at ws i) q) ws)) d
          ∙ sym (twice ws t s g e)

      go : (x : Bool) → switch_there rows s ≡ x → (y : Bool) → switch_there rows t ≡ y
          → add_switch rows (add_switch rows ws s) t ≡ add_switch rows (add_switch rows ws t) s
      go true e true g = same (ℕ_discrete c k) e g
      go true e false g = add_missing _ t g ∙ sym (ap (λ (w : Words). add_switch rows w s) (add_missing ws t g))
      go false e y g = ap (λ (w : Words). add_switch rows w t) (add_missing ws s e) ∙ sym (add_missing _ s e)

-- R18.4: the switches of two sheets, one behind the other in bytes
pub switches-append : (k : ℕ) (s t : List ℕ) → fit_from k s ≡ Ok tt → sheet_switches (s ++ t) ≡ sheet_switches s ++ sheet_switches t
unfolding fit_from sheet_switches
switches-append k [] t e = refl
switches-append k (c ∷ []) t e = cc
switches-append k (c ∷ n ∷ []) t e = cc
switches-append k (c ∷ n ∷ p ∷ s) t e = ap (λ (l : List Switching). switching c n p ∷ l) (switches-append (k + 3) s t (go (ltb p 2) e))
  where
    go : (b : Bool) → cond b (fit_from (k + 3) s) (unfit (k + 2)) ≡ Ok tt → fit_from (k + 3) s ≡ Ok tt
    go true q = q
    go false q = cc
