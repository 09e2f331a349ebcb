-- `text::decimal` meets its contract.
use mathlib.Core.Path.{ap, ◌∙◌}
use Rattle.wire.specs.Lay.{lay}
use Rattle.pieces.specs.Pieces.{place_after}
use Rattle.text.proofs.decimal.Goals as goal

pub returns : goal.returns
returns c = let k = c.decimal-k in let a = c.args in
    let w = c.put_piece in
    record {
      count = k.result;
      fewest = k.ensures.len;
      place = w.ensures.value ∙ ap (place_after a.out.now a.at) k.ensures.digits;
      memory =
          w.ensures.out_after ∙ ap (lay a.out.now a.at) k.ensures.digits;
    }
