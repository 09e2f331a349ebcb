-- `table_layout::end_laid` meets its contract.
use Rattle.table_layout.proofs.Parts.{front_long, start-named}
use Rattle.table_layout.specs.Layout.{start_of, end_of}
use Rattle.table_layout.specs.declared.Kind.TheVariants.{Connection, Route, Destination}
use Rattle.table_layout.proofs.end_laid.Goals as goal

pub slice_bounds-front-end : goal.slice_bounds-front-end
slice_bounds-front-end c = front_long c.args.image.now c.requires.head

pub returns-in-Group : goal.returns-in-Group
unfolding start_of
returns-in-Group c = rw c.in-Group.is (start-named _ c.requires Connection _ c.named_start.ensures.is)

pub returns-in-Connection : goal.returns-in-Connection
unfolding start_of
returns-in-Connection c = rw c.in-Connection.is (start-named _ c.requires Route _ c.named_start-in-Connection.ensures.is)

pub returns-in-Route : goal.returns-in-Route
unfolding start_of
returns-in-Route c = rw c.in-Route.is (start-named _ c.requires Destination _ c.named_start-in-Route.ensures.is)

pub returns-in-Destination : goal.returns-in-Destination
unfolding end_of
returns-in-Destination c = rw c.in-Destination.is c.requires.whole
