-- `table::body` meets its contract.
use Rattle.table.specs.Table.{body_answer, body_answer_at}
use mathlib.Core.Path.{refl, sym, ◌∙◌}
use Rattle.wire.proofs.Place.{at_front}
use Rattle.table.proofs.body.Goals as goal

pub returns-in-Err : goal.returns-in-Err
unfolding body_answer body_answer_at
returns-in-Err c = rw (sym c.check_table.ensures ∙ c.in-Err.is) record {
  bytes = refl;
  place = at_front _;
}

pub returns-in-Ok : goal.returns-in-Ok
unfolding body_answer body_answer_at
returns-in-Ok c = rw (sym c.check_table.ensures ∙ c.in-Ok.is) record {
  bytes = c.body_numbered.ensures.bytes;
  place = c.body_numbered.ensures.place;
}
