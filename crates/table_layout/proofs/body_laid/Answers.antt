-- `table_layout::body_laid` meets its contract.
use Rattle.table_layout.specs.Layout.{start_of}
use Rattle.table_layout.proofs.Parts.{front_long, start-named, body_from, body-ends, body_range, body-there}
use mathlib.Core.Path.{◌≡◌}
use Rattle.table_layout.proofs.body_laid.Goals as goal

pub slice_bounds-front-end : goal.slice_bounds-front-end
slice_bounds-front-end c = front_long c.args.image.now c.requires.head

pub slice_bounds-result-count : goal.slice_bounds-result-count
slice_bounds-result-count c =
    let start : c.named_start-at.result ≡ start_of c.args.image.now c.args.k = start-named _ c.requires _ _ c.named_start-at.ensures.is in
    body_from c.args.image.now c.requires c.args.k _ _ start c.end_laid-end.ensures

pub slice_bounds-result-start : goal.slice_bounds-result-start
slice_bounds-result-start c =
    let start : c.named_start-at.result ≡ start_of c.args.image.now c.args.k = start-named _ c.requires _ _ c.named_start-at.ensures.is in
    body_from c.args.image.now c.requires c.args.k _ _ start c.end_laid-end.ensures

pub slice_bounds-result-end : goal.slice_bounds-result-end
slice_bounds-result-end c =
    let start : c.named_start-at.result ≡ start_of c.args.image.now c.args.k = start-named _ c.requires _ _ c.named_start-at.ensures.is in
    body-ends c.args.image.now c.requires c.args.k _ _ start c.end_laid-end.ensures

pub returns : goal.returns
returns c =
    let start : c.named_start-at.result ≡ start_of c.args.image.now c.args.k = start-named _ c.requires _ _ c.named_start-at.ensures.is in
    let s = c.args.image in record {
      bytes = body_range s.now c.requires c.args.k _ _ start c.end_laid-end.ensures;
      place = body-there s.now c.requires c.args.k _ _ start c.end_laid-end.ensures s.ref_ptr;
    }
