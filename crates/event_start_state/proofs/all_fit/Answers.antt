-- `event_start_state::all_fit` meets its contract.
use Rattle.std.proofs.Common.{rules, tests, refl, ◌∙◌}
use Rattle.std.proofs.lemmas.Iterator.{YieldsList-from_range}
use Rattle.std.proofs.lemmas.Iterator.Search.{all_from_yields_List}
use Rattle.event_start_state.specs.Given as Is
use Rattle.event_start_state.proofs.Every.{every-below}
use Rattle.event_start_state.proofs.all_fit.Goals as goal

pub returns : goal.returns
returns c =
    let fits = Is.fits_at c.args.bytes.now in
    all_from_yields_List fits _ _ _ c.all.ensures.ran (YieldsList-from_range 0 16 16 refl refl) (λ x b q k. search (rules, tests)) ∙ every-below fits 16
