-- `table::is_laid` meets its contract.
use Rattle.table.proofs.Front.{front_by_numbers}
use Rattle.table_layout.proofs.Parts.{front_long}
use Rattle.table.proofs.is_laid.Goals as goal

pub slice_bounds-front-end : goal.slice_bounds-front-end
slice_bounds-front-end c = front_long c.args.image.now c.requires

pub returns : goal.returns
returns c =
    front_by_numbers _ (λ i. (c.shared_slice_known-1.given i).fits) _ _ _ _ _ _ _ _ _
    c.be32.ensures.is c.kind_and_rows-groups.ensures.is c.kind_and_rows-connections.ensures.is
    c.kind_and_rows-routes.ensures.is c.kind_and_rows-destinations.ensures.is c.named_start.ensures.is
    c.named_start-connections_at.ensures.is c.named_start-routes_at.ensures.is c.named_start-destinations_at.ensures.is
