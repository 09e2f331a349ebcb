-- What a sum of figures is where it fits, and where it does not (R21.4): the laws of whatever adds up.
use Rattle.std.specs.Prelude.{◌≡◌, true, false}
use Rattle.std.proofs.Common.{refl}
use Rattle.report.specs.declared.RouteFigures.{RouteFigures}
use Rattle.report.specs.declared.Drops.{Drops}
use Rattle.report.specs.Figures.{add_figures, figures_fit, plus_figures, add_drops, drops_fit, plus_drops}

pub figures_made : (f g : RouteFigures) → figures_fit f g ≡ true → plus_figures f g ≡ add_figures f g
unfolding plus_figures
figures_made f g e = rw e refl

pub figures_refused : (f g : RouteFigures) → figures_fit f g ≡ false → plus_figures f g ≡ f
unfolding plus_figures
figures_refused f g e = rw e refl

pub drops_made : (d e : Drops) → drops_fit d e ≡ true → plus_drops d e ≡ add_drops d e
unfolding plus_drops
drops_made d e h = rw h refl

pub drops_refused : (d e : Drops) → drops_fit d e ≡ false → plus_drops d e ≡ d
unfolding plus_drops
drops_refused d e h = rw h refl
