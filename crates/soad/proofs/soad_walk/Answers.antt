-- `soad::soad_walk` meets its contract.
use mathlib.Core.Path.{refl, sym, ap}
use Rattle.soad_walk.specs.declared.Numbers.{Numbers}
use Rattle.soad.proofs.soad_walk.Goals as goal

pub returns-in-Err : goal.returns-in-Err
returns-in-Err c = rw (sym c.in-Err.ensures) record {
  value = c.from.ensures;
  next_after = refl;
  kind_after = refl;
  number_after = refl;
  id_after = refl;
  size_after = refl;
  at_after = refl;
}

pub returns-in-Ok : goal.returns-in-Ok
returns-in-Ok c =
    let e = c.numbers_of-told.ensures in
    rw (sym c.in-Ok.ensures) record {
      value = refl;
      next_after = refl;
      kind_after = ap (λ (n : Numbers). n.kind) e;
      number_after = ap (λ (n : Numbers). n.number) e;
      id_after = ap (λ (n : Numbers). n.id) e;
      size_after = ap (λ (n : Numbers). n.length) e;
      at_after = ap (λ (n : Numbers). n.at) e;
    }
