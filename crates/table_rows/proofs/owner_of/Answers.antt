-- `table_rows::owner_of` meets its contract.
use Rattle.table_rows.proofs.Heads.{owner_number}
use Rattle.table_rows.proofs.owner_of.Goals as goal

pub returns : goal.returns
returns c = owner_number _ (λ i. (c.shared_slice_known-1.given i).fits) _ c.be32.ensures.is
