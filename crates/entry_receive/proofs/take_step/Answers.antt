-- `entry_receive::take_step` meets its contract.
use mathlib.Core.Path.{◌≡◌, sym, ◌∙◌}
use mathlib.Core.Bool.{true}
use native.Mathlib.Omega.{arith}
use Rattle.entry_receive.specs.Answer.{is_done}
use Rattle.entry_receive.specs.Segment.{Takes}
use Rattle.entry_receive.proofs.Taking.{part-fit, step_done, memory_done, step_none, memory_none}
use Rattle.entry_receive.proofs.take_step.Goals as goal

pub returns-then-not-done : goal.returns-then-not-done
returns-then-not-done c =
    let e = sym c.is_done-done.ensures ∙ c.if-not-done.true in
    record {
      value = step_none _ _ _ _ _ _ e _;
      rx_after = memory_none _ _ _ _ _ _ e;
    }

pub body_laid-routes-requires : goal.body_laid-routes-requires
body_laid-routes-requires c = (c.requires (sym c.is_done-done.ensures ∙ c.if-not-done.false)).laid

pub slice_bounds-take-end : goal.slice_bounds-take-end
slice_bounds-take-end c =
    let done : is_done c.args.answer ≡ true = sym c.is_done-done.ensures ∙ c.if-not-done.false in
    let takes : let a = c.args in Takes a.image.now a.c a.rx.now a.connection = c.requires done in
    omega (arith, takes.small, takes.room)

pub take-taken-requires : goal.take-taken-requires
take-taken-requires c =
    let done : is_done c.args.answer ≡ true = sym c.is_done-done.ensures ∙ c.if-not-done.false in
    let takes : let a = c.args in Takes a.image.now a.c a.rx.now a.connection = c.requires done in
    part-fit _ _ _ _ c.args.segment.now takes c.body_laid-routes.result.now c.body_laid-routes.ensures.bytes

pub returns : goal.returns
returns c =
    let done : is_done c.args.answer ≡ true = sym c.is_done-done.ensures ∙ c.if-not-done.false in
    let takes : let a = c.args in Takes a.image.now a.c a.rx.now a.connection = c.requires done in
    let a = c.args in record {
      value = step_done a.image.now a.c a.rx.now a.connection a.segment.now
          takes c.body_laid-routes.result.now c.body_laid-routes.ensures.bytes a.answer done
          c.take-taken.result c.with_part.result a.drops c.drops_after.result c.take-taken.ensures.answer c.with_part.ensures c.drops_after.ensures;
      rx_after = memory_done a.image.now a.c a.rx.now a.connection a.segment.now
          takes c.body_laid-routes.result.now c.body_laid-routes.ensures.bytes a.answer done
          (λ i. omega (arith, c.shared_slice_known-2-1.given i)) c.take-taken.new.rx c.take-taken.ensures.memory;
    }
