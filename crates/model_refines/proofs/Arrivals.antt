-- A DATAGRAM OR AN ACCEPT: one member becomes online with the source as remote, or nothing changes.
use Rattle.std.proofs.Common.{Option, ℕ, Some, None}
use Prim.Native.Nat.{ℕ}
use mathlib.Core.Path.{◌≡◌, refl, sym, subst}
use mathlib.Core.Bool.{Bool, true, false, cond}
use mathlib.Core.List.{List}
use lib.Dec.{leb}
use lib.ListN.{length, length-set}
use Rattle.table_layout.specs.Layout.{rows_of}
use Rattle.table_layout.specs.declared.Kind.TheVariants.{Group}
use Rattle.connection.specs.declared.Connection.{Connection}
use Rattle.connection.specs.declared.Remote.{Remote}
use Rattle.connection.specs.declared.Refusal.TheVariants.{Missing, Denied}
use Rattle.connection.specs.Connection.{zero_record, met_of}
use Rattle.state.specs.declared.State.{State}
use Rattle.state.specs.State.{record_at, with_record}
use Rattle.state.specs.Fresh.{config_of}
use Rattle.select.specs.Choose.{meet, arrival_refused, denied_of, chosen_in, arrive_of}
use Rattle.model.proofs.View.{Fewer, fewer-same, fewer-set}
use Rattle.lists.proofs.Each.{one_at}
use Rattle.model_refines.proofs.Less.{met_less}

-- the state after it
pub data Meeting (image : List ℕ) (s : State) (source : Remote) : State → Type 0 where
  nobody : Meeting image s source s
  meeting_one : (j : ℕ) → Meeting image s source (with_record j (met_of (config_of image j) source (record_at s j)) s)

meets : (image : List ℕ) (s : State) (source : Remote) (c : Option ℕ) → Meeting image s source (meet image s source c).state
meets image s source None = nobody
meets image s source (Some j) = meeting_one j

pub arrive_is : (image : List ℕ) (s : State) (accept : Bool) (group : ℕ) (source : Remote)
    → Meeting image s source (arrive_of image s accept group source).state
unfolding arrive_of
arrive_is image s accept group source = go (leb (rows_of image Group) group) (denied_of image accept group source)
  where
    go : (m d : Bool) → Meeting image s source
        (cond m (arrival_refused s Missing) (cond d (arrival_refused s Denied) (meet image s source (chosen_in image s accept group source)))).state
    go true d = nobody
    go false true = nobody
    go false false = meets image s source (chosen_in image s accept group source)

-- it holds no more than before
module _ (image : List ℕ) (s : State) (source : Remote) where
  pub meeting_fewer : (t : State) → Meeting image s source t → Fewer t.connections s.connections
  meeting_fewer t nobody = fewer-same s.connections
  meeting_fewer t (meeting_one j) =
      fewer-set s.connections j (met_of (config_of image j) source (record_at s j)) (met_less (config_of image j) source (record_at s j))

  pub meeting_length : (t : State) → Meeting image s source t → length t.connections ≡ length s.connections
  meeting_length t nobody = refl
  meeting_length t (meeting_one j) = length-set s.connections j (met_of (config_of image j) source (record_at s j))

  -- each record is met, or as it was
  pub meeting_at : (t : State) (P : Connection → Type 0) (k : ℕ) → Meeting image s source t
      → P (met_of (config_of image k) source (record_at s k)) → P (record_at s k) → P (record_at t k)
  meeting_at t P k nobody p q = q
  meeting_at t P k (meeting_one j) p q =
      one_at zero_record s.connections j k (met_of (config_of image j) source (record_at s j)) P
      (λ e. subst (λ (i : ℕ). P (met_of (config_of image i) source (record_at s i))) (sym e) p) q
