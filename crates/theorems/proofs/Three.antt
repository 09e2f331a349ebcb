-- DEMAND 3, ONE THEOREM: from one accepted table, one sound state and memory of the right lengths, runs that count as the same end in the
-- same state, have handed out the same PDUs, and these are exactly demand 2's. And such a start: a fresh state with any memory of the right
-- lengths.
use Rattle.std.proofs.Common.{Ok}
use Prim.Native.Nat.{ℕ}
use mathlib.Core.Path.{◌≡◌, refl}
use mathlib.Core.List.{List}
use lib.ListN.{length, replicate, length-replicate}
use Rattle.table.specs.Table.{check_table}
use Rattle.state.specs.Fresh.{fresh_state}
use Rattle.law_keeps.proofs.Fresh.{fresh-passed}
use Rattle.model.specs.Events.{Event}
use Rattle.model_runs.specs.Same.{Same}
use Rattle.model_runs.specs.Streams.{RunBytes}
use Rattle.model_refines.specs.Machine.{Machine, machine, lent_to}
use Rattle.model_refines.specs.Run.{Good}
use Rattle.theorems.specs.Three.{Demand3}
use Rattle.theorems.proofs.Runs.{same-state, same-pdus}
use Rattle.theorems.proofs.Streams.{own-list}

pub demand_3 : (image : List ℕ) (m : Machine) → Good image m → {es fs : List Event} → Same es fs → RunBytes es → Demand3 image m es fs
demand_3 image m good {es} {fs} alike bytes =
    record {
      state = same-state image m good alike bytes;
      pdus = same-pdus image m good alike bytes;
      list = λ k there tcp. own-list image k there tcp m good es bytes;
    }

-- SUCH A START: the fresh state of an accepted table
module _ (image : List ℕ) (accepted : check_table image ≡ Ok tt) where
  pub fresh_good : (rx tx : List ℕ) → length rx ≡ 23424 → length tx ≡ 23552 → Good image (machine (fresh_state image) rx tx)
  unfolding fresh_state
  fresh_good rx tx r t =
      record { passed = fresh-passed (lent_to image (machine (fresh_state image) rx tx)) accepted refl r t; sixteen = refl }

  -- and memory that is all zero
  pub fresh_zeroed : Good image (machine (fresh_state image) (replicate 23424 0) (replicate 23552 0))
  fresh_zeroed = fresh_good (replicate 23424 0) (replicate 23552 0) (length-replicate {A = ℕ} 23424 0) (length-replicate {A = ℕ} 23552 0)
