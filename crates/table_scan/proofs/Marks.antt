-- Rows that share what they may not have one mark: so a row whose mark no earlier row has is clear of them all.
use Prim.Native.Nat.{ℕ, ◌+◌, ◌/◌, ◌<◌, ◌≤◌}
use mathlib.Core.Path.{◌≡◌, refl, sym, ap, ◌∙◌}
use mathlib.Core.Bool.{Bool, true, false, not}
use mathlib.Core.List.{List}
use native.Mathlib.Omega.{arith}
use native.Mathlib.Decide.{ℕ_discrete}
use lib.ListN.{length, get_or, set, length-set}
use lib.Seq.{get_or-set_same, get_or-set_other}
use Rattle.lists.specs.Search.{every, first_bad}
use Rattle.lists.proofs.Both.{impossible}
use Rattle.lists.proofs.Search.{every-all, search_start, search_ended}
use Rattle.table_layout.specs.Layout.{row_width, row_in}
use Rattle.table_layout.specs.declared.Kind.TheVariants.{Route}
use Rattle.table_scan.specs.Scan.{clear_in, good_in}
use Rattle.table_scan.specs.Marks.{Come, Struck}
use Rattle.table_scan.proofs.Rows.{bad-row, shared_row, good_row}

module _ (n : ℕ) (shares : List ℕ → List ℕ → Bool) (mark : List ℕ → ℕ) (tag : ℕ) (body : List ℕ) where
  -- the marks of the rows before i are noted
  abbrev Noted : List ℕ → ℕ → Type 0
  Noted seen i = (j : ℕ) → j < i → get_or seen (mark (row_in n body j)) 0 ≡ tag

  -- a mark that was not met: no earlier row shares
  noted_new : ((a b : List ℕ) → shares a b ≡ true → mark a ≡ mark b)
      → (seen : List ℕ) (i m : ℕ) (row : List ℕ) → row ≡ row_in n body i → m ≡ mark row → Noted seen i → (get_or seen m 0 ≡ tag → ⊥)
      → every (clear_in shares n body i) i ≡ true
  unfolding clear_in
  noted_new law seen i m row is e noted new = every-all _ i (λ j h. go j h (shares (row_in n body j) (row_in n body i)) refl)
    where
      go : (j : ℕ) → j < i → (b : Bool) → shares (row_in n body j) (row_in n body i) ≡ b → not (shares (row_in n body j) (row_in n body i)) ≡ true
      go j h false q = ap not q
      go j h true q =
          absurd (new (ap (λ (x : ℕ). get_or seen x 0) (e ∙ ap mark is ∙ sym (law (row_in n body j) (row_in n body i) q)) ∙ noted j h))

  -- one more
  noted_more : (seen : List ℕ) (i m : ℕ) (row : List ℕ) → row ≡ row_in n body i → m ≡ mark row → m < length seen → Noted seen i → Noted (set seen m tag) (i + 1)
  noted_more seen i m row is e h noted j l = go (ℕ_discrete (mark (row_in n body j)) m)
    where
      go : Dec (mark (row_in n body j) ≡ m) → get_or (set seen m tag) (mark (row_in n body j)) 0 ≡ tag
      go (yes q) = ap (λ (x : ℕ). get_or (set seen m tag) x 0) q ∙ get_or-set_same seen m tag 0 h
      go (no q) = get_or-set_other seen m (mark (row_in n body j)) tag 0 q ∙ before (ℕ_discrete j i)
        where
          before : Dec (j ≡ i) → get_or seen (mark (row_in n body j)) 0 ≡ tag
          before (yes p) = absurd (q (ap (λ (x : ℕ). mark (row_in n body x)) p ∙ ap mark (sym is) ∙ sym e))
          before (no p) = noted j (omega arith)

-- the two loops, at the places where they stand
module _ (good : List ℕ → Bool) (shares : List ℕ → List ℕ → Bool) (mark : List ℕ → ℕ) (tag : ℕ) (body : List ℕ) where
  -- before the first row nothing is noted, whatever the marks hold
  pub come-start : (seen : List ℕ) → ((row : List ℕ) → mark row < length seen) → Come good shares mark tag body seen 0
  come-start seen room =
      let s = search_start (good_in good shares (row_width Route) body) (length body / row_width Route) in
      record { low = s.0; rest = s.1; room = room; noted = λ j l. absurd (omega arith) }

  pub struck_end : (seen : List ℕ) (i : ℕ) → Come good shares mark tag body seen i → length body / row_width Route ≤ i → Struck good shares mark tag body seen i
  struck_end seen i c h = record { come = c; met = λ l g. absurd (omega arith) }

  module _ (seen : List ℕ) (i : ℕ) (row : List ℕ) (is : row ≡ row_in (row_width Route) body i) where
    -- the loop that most rows stay in
    pub struck_bad : Come good shares mark tag body seen i → {ok : Bool} → ok ≡ good row → ok ≡ false → Struck good shares mark tag body seen i
    struck_bad c e f = record { come = c; met = λ l g. impossible (sym f ∙ e ∙ ap good is ∙ g) }

    module _ (m : ℕ) (em : m ≡ mark row) where
      pub struck_met : Come good shares mark tag body seen i → get_or seen m 0 ≡ tag → Struck good shares mark tag body seen i
      struck_met c e = record { come = c; met = λ l g. ap (λ (x : ℕ). get_or seen x 0) (sym (em ∙ ap mark is)) ∙ e }

      pub come-on : ((a b : List ℕ) → shares a b ≡ true → mark a ≡ mark b) → Come good shares mark tag body seen i → i < length body / row_width Route
          → {ok : Bool} → ok ≡ good row → ok ≡ true → (get_or seen m 0 ≡ tag → ⊥) → Come good shares mark tag body (set seen m tag) (i + 1)
      come-on law c h e t new =
          let a = good_row good shares (row_width Route) body i row (c.low, c.rest) h is e t
          (sym (noted_new (row_width Route) shares mark tag body law seen i m row is em c.noted new)) refl in
          record {
            low = a.0;
            rest = a.1;
            room = λ r. rw (length-set seen m tag) (c.room r);
            noted =
                noted_more (row_width Route) shares mark tag body seen i m row is em (rw em (c.room row)) c.noted;
          }

    -- the loop around it, at a row that was struck
    module _ (s : Struck good shares mark tag body seen i) (h : i < length body / row_width Route) where
      pub found-bad : {ok : Bool} → ok ≡ good row → ok ≡ false → i ≡ first_bad (good_in good shares (row_width Route) body) (length body / row_width Route)
      found-bad e f = bad-row good shares (row_width Route) body i row (s.come.low, s.come.rest) h is e f

      pub found_shared : {ok : Bool} → ok ≡ every (clear_in shares (row_width Route) body i) i
          → ok ≡ false → i ≡ first_bad (good_in good shares (row_width Route) body) (length body / row_width Route)
      found_shared e f = shared_row good shares (row_width Route) body i row (s.come.low, s.come.rest) h is e f

      pub come-past : {ok new : Bool} → ok ≡ good row → ok ≡ true
          → new ≡ every (clear_in shares (row_width Route) body i) i → new ≡ true → Come good shares mark tag body seen (i + 1)
      come-past e t f u =
          let a = good_row good shares (row_width Route) body i row (s.come.low, s.come.rest) h is e t f u in
          record { low = a.0; rest = a.1; room = s.come.room; noted = λ j l. go j l (ℕ_discrete j i) }
        where
          go : (j : ℕ) → j < i + 1 → Dec (j ≡ i) → get_or seen (mark (row_in (row_width Route) body j)) 0 ≡ tag
          go j l (yes p) = ap (λ (x : ℕ). get_or seen (mark (row_in (row_width Route) body x)) 0) p ∙ s.met h (ap good (sym is) ∙ sym e ∙ t)
          go j l (no p) = s.come.noted j (omega arith)

  pub found_none : (seen : List ℕ) (i : ℕ) → Struck good shares mark tag body seen i → length body / row_width Route ≤ i
      → i ≡ first_bad (good_in good shares (row_width Route) body) (length body / row_width Route)
  found_none seen i s h = search_ended (good_in good shares (row_width Route) body) (length body / row_width Route) i (s.come.low, s.come.rest) h
