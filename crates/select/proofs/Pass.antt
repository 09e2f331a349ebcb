-- The one pass over the rows, at the places where the loop stands.
use Rattle.std.proofs.Common.{Option, ℕ, Some, Result, Ok, Err}
use Prim.Native.Nat.{ℕ, ◌+◌, ◌-◌, ◌/◌, ◌<◌, ◌≤◌}
use mathlib.Core.Path.{◌≡◌, refl, sym, ap, ◌∙◌}
use mathlib.Core.Bool.{Bool, false}
use mathlib.Core.List.{List, []}
use native.Mathlib.Omega.{arith}
use lib.Dec.{eqb}
use lib.ListN.{length}
use Rattle.wire.specs.Be.{be}
use Rattle.table_layout.specs.Layout.{rows_of, body_of, row_in, Laid}
use Rattle.table_layout.specs.declared.Kind.TheVariants.{Connection as KConnection}
use Rattle.table_rows.specs.Rows.{connection_row}
use Rattle.connection.specs.declared.Connection.{Connection}
use Rattle.connection.specs.declared.Remote.{Remote}
use Rattle.state.specs.declared.State.{State}
use Rattle.state.specs.State.{record_at}
use Rattle.lists.specs.Fold.{fold_from}
use Rattle.lists.proofs.Fold.{Folded, fold_start, fold_on, fold_keeps}
use Rattle.select.specs.declared.Pick.{Pick}
use Rattle.select.specs.declared.NotMet.TheVariants.{Refused, Unmatched}
use Rattle.select.specs.Best.{IsChosen, pick, better, found, chosen_of}
use Rattle.select.specs.Choose.{score_of, score_at, chosen_in, better_of, searched_of}
use Rattle.select.proofs.Best.{better_no, better_yes, better-alike, better-small, chosen_best, chosen_one}
use Rattle.select.proofs.Scores.{no_member, rows_are, score_past, score-at}
use Rattle.select.specs.declared.NotMet.{NotMet}

-- one turn of the loop, as the code takes it
module _ (accept : Bool) (group : ℕ) (source : Remote) (b : Pick) (row : List ℕ) (i : ℕ) (c : Connection) (first : ℕ) (ef : first ≡ be 1 row 0) where
  abbrev own : ℕ → ℕ
  own k = score_of accept source (eqb (connection_row row).group group) c

  own_is : (r : ℕ) → r ≡ score_of accept source (eqb first group) c → r ≡ own i
  unfolding connection_row
  own_is r e = e ∙ ap (λ (n : ℕ). score_of accept source (eqb n group) c) ef

  pub turn_no : (r : ℕ) → r ≡ score_of accept source (eqb first group) c → r ≤ b.score → b ≡ better_of accept group source b row i c
  turn_no r e h = better_no own b i (rw (own_is r e) at h)

  pub turn_yes : (r : ℕ) → r ≡ score_of accept source (eqb first group) c → b.score < r → pick r i ≡ better_of accept group source b row i c
  turn_yes r e h = better_yes own b i r (own_is r e) h

  -- a record that is no member scores nothing
  pub turn-out : eqb first group ≡ false → b ≡ better_of accept group source b row i c
  turn-out f = turn_no 0 (none (eqb first group) f) (omega arith)
    where
      none : (t : Bool) → t ≡ false → 0 ≡ score_of accept source t c
      none t e = rw e (no_member accept source c)

module _ (image : List ℕ) (s : State) (accept : Bool) (group : ℕ) (source : Remote) where
  abbrev score : ℕ → ℕ
  score = score_at image s accept group source

  -- the records below i are passed
  abbrev Passing : ℕ → Pick → Type 0
  Passing i b = Folded (better score) 16 (pick 0 0) i b

  module _ (i : ℕ) (b : Pick) (inv : Passing i b) (h : rows_of image KConnection ≤ i) where
    -- the records that are left score nothing, and the best stays
    rest_none : fold_from (better score) (16 - i) i b ≡ b
    rest_none =
        fold_keeps (better score) (λ (d : Pick). d ≡ b) (16 - i) i b
        (λ j d l u e. sym (better_no score d j (omega (arith, score_past image s accept group source j (omega arith)))) ∙ e) refl

    pass_ended : found b ≡ chosen_in image s accept group source
    unfolding chosen_in chosen_of
    pass_ended = ap found (sym rest_none ∙ inv.1)

  -- THE SEARCH: the rows are looked through where nobody is answered before it, else nobody is found
  module _ (before : Result ℕ NotMet) where
    pub record Searching (i : ℕ) (b : Pick) : Type 0 where
      pub passing : before ≡ Err Unmatched → Passing i b
      pub idle : (before ≡ Err Unmatched → ⊥) → b.score ≡ 0
      pub small : b.at < 16

    pub search_start : Searching 0 (pick 0 0)
    search_start = record { passing = λ e. fold_start _ _ _; idle = λ n. refl; small = omega arith }

    module _ (laid : before ≡ Err Unmatched → Laid image) (body : List ℕ) (eb : body ≡ searched_of before image) where
      open_body : before ≡ Err Unmatched → body ≡ body_of image KConnection
      open_body e = eb ∙ ap (λ (a : Result ℕ NotMet). searched_of a image) e

      open_rows : before ≡ Err Unmatched → length body / 16 ≡ rows_of image KConnection
      open_rows e = rows_are image (laid e) KConnection body (open_body e)

      module _ (i : ℕ) (h : i < length body / 16) where
        -- there is a row to look at only there
        search_open : before ≡ Err Unmatched
        search_open = go before eb
          where
            none : body ≡ [] → ⊥
            none e = let z : length body ≡ 0 = ap length e in omega (arith, h, z)

            go : (a : Result ℕ NotMet) → body ≡ searched_of a image → a ≡ Err Unmatched
            go (Ok k) e = absurd (none e)
            go (Err (Refused r)) e = absurd (none e)
            go (Err Unmatched) e = refl

        pub search_small : (before ≡ Err Unmatched → rows_of image KConnection ≤ 16) → i < 16
        search_small most = omega (arith, h, open_rows search_open, most search_open)

        pub search_on : i < 16 → (b : Pick) → Searching i b → (row : List ℕ) → row ≡ row_in 16 body i → (next : Pick)
            → next ≡ better_of accept group source b row i (record_at s i) → Searching (i + 1) next
        search_on l b inv row er next en =
            let e = search_open in
            let step : next ≡ better score b i =
            en
            ∙ better-alike (λ (k : ℕ). score_of accept source (eqb (connection_row row).group group) (record_at s i)) score b i
            (score-at image s accept group source (laid e) body (open_body e) i h row er) in
            record {
              passing = λ u. fold_on _ 16 _ i b next (inv.passing u) l step;
              idle = λ n. absurd (n e);
              small = rw step (better-small score 16 b i inv.small l);
            }

      pub search_ended : (i : ℕ) → length body / 16 ≤ i → (b : Pick) → Searching i b → before ≡ Err Unmatched → found b ≡ chosen_in image s accept group source
      search_ended i h b inv e = pass_ended i b (inv.passing e) (omega (arith, h, open_rows e))

  -- the choice is the best, and the only one that is
  pub chosen_is_best : IsChosen score 16 (chosen_in image s accept group source)
  unfolding chosen_in
  chosen_is_best = chosen_best score 16

  pub chosen_is_only : (x : Option ℕ) → IsChosen score 16 x → x ≡ chosen_in image s accept group source
  chosen_is_only x b = chosen_one score 16 x (chosen_in image s accept group source) b chosen_is_best

  -- so it is one of the sixteen
  pub chosen_small : (k : ℕ) → chosen_in image s accept group source ≡ Some k → k < 16
  chosen_small k e = (rw e at chosen_is_best).inside
