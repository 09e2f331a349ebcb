-- A member's score, as the code finds it.
use Prim.Native.Nat.{ℕ, ◌+◌, ◌/◌, ◌<◌, ◌≤◌}
use mathlib.Core.Path.{◌≡◌, refl, ap, ◌∙◌}
use mathlib.Core.Bool.{Bool, true, false, not, ◌&&◌, ◌||◌}
use mathlib.Core.List.{List}
use lib.Dec.{eqb}
use lib.ListN.{length}
use borrow.Author.Tests.{lt-ltb, le-ltb}
use Rattle.table_layout.specs.Layout.{row_width, rows_of, body_of, row_in, Laid}
use Rattle.table_layout.specs.declared.Kind.{Kind}
use Rattle.table_layout.specs.declared.Kind.TheVariants.{Connection as KConnection}
use Rattle.table_layout.proofs.Parts.{body-rows}
use Rattle.table_rows.specs.Rows.{connection_row, connection_of}
use Rattle.connection.specs.declared.Connection.{Connection}
use Rattle.connection.specs.declared.Remote.{Remote}
use Rattle.state.specs.declared.State.{State}
use Rattle.connection.specs.declared.Fields.{Fields}
use Rattle.connection.specs.Connection.{is_reconnect, is_online, equal_fields, wild_fields}
use Rattle.state.specs.State.{record_at}
use Rattle.select.specs.Choose.{rank_of, score_of, member, score_at}

module _ (accept member : Bool) (source : Remote) (c : Connection) (waits up : Bool) (equal wild : Fields)
    (w : waits ≡ is_reconnect c.mode) (u : up ≡ is_online c.mode) (e : equal ≡ equal_fields c.remote source) (f : wild ≡ wild_fields c.remote) where
  abbrev scores : Bool
  scores = member && ((waits || (not accept && up)) && not c.close_wanted) && ((equal.address || wild.address) && (equal.port || wild.port))

  pub score_yes : (n : ℕ) → scores ≡ true → n ≡ rank_of equal → 1 + n ≡ score_of accept source member c
  unfolding score_of
  score_yes n t r = cc

  pub score_no : scores ≡ false → 0 ≡ score_of accept source member c
  unfolding score_of
  score_no t = cc

pub no_member : (accept : Bool) (source : Remote) (c : Connection) → 0 ≡ score_of accept source false c
unfolding score_of
no_member accept source c = refl

-- how many rows there are of a kind, by its body
pub rows_are : (image : List ℕ) → Laid image → (k : Kind) (body : List ℕ) → body ≡ body_of image k → length body / row_width k ≡ rows_of image k
rows_are image l k body e = ap (λ (b : List ℕ). length b / row_width k) e ∙ body-rows image l k

module _ (image : List ℕ) (s : State) (accept : Bool) (group : ℕ) (source : Remote) where
  -- past the rows nobody scores
  pub score_past : (i : ℕ) → rows_of image KConnection ≤ i → 0 ≡ score_at image s accept group source i
  unfolding score_at
  score_past i h = rw (le-ltb _ _ h) (no_member accept source (record_at s i))

  -- row i, as the loop reads it
  module _ (l : Laid image) (body : List ℕ) (eb : body ≡ body_of image KConnection) (i : ℕ) (h : i < length body / 16) (row : List ℕ)
      (er : row ≡ row_in 16 body i) where
    member_is : eqb (connection_row row).group group ≡ member image s accept group source i
    member_is =
        let there : i < rows_of image KConnection = rw (rows_are image l KConnection body eb) at h in
        let own : (connection_row row).group ≡ (connection_of image i).group =
        ap (λ (r : List ℕ). (connection_row r).group) (er ∙ ap (λ (b : List ℕ). row_in 16 b i) eb) in
        rw (lt-ltb _ _ there, own)

    -- the score of record i
    pub score-at : score_of accept source (eqb (connection_row row).group group) (record_at s i) ≡ score_at image s accept group source i
    unfolding score_at
    score-at = ap (λ (b : Bool). score_of accept source b (record_at s i)) member_is
