use Rattle.std.proofs.Common.{rules, length, ◌≡◌, refl, sym, ◌∙◌}
use native.Mathlib.Omega.{arith}
use Rattle.gate.proofs.Records.{sound-turn, sound_not, sound-all, past_in, row-in, idle_in}
use Rattle.gate.proofs.each_sound.Goals as goal

pub loop-i-init : goal.loop-i-init
loop-i-init c =
    let sixteen : length c.args.records.now ≡ 16 = search rules in (c.requires, (search rules, sixteen, refl))

pub returns-then-not-is_quiet : goal.returns-then-not-is_quiet
returns-then-not-is_quiet c =
    let a = c.args in
    let idle = sym c.is_idle.ensures ∙ c.if-not-is_idle.false in
    sound_not a.rows a.connections.now a.groups.now a.routes.now a.records.now c.loop-i.i c.loop-i.invariant.1
    (omega (arith, c.loop-i-test.true, c.loop-i.invariant.0))
    (sym (idle_in a.rows _ _ _ c.loop-i.i _ c.loop-i-test.true idle) ∙ sym c.is_quiet.ensures ∙ c.if-not-is_quiet.true)

pub loop-i-preserved : goal.loop-i-preserved
loop-i-preserved c =
    let a = c.args in
    let idle = sym c.is_idle.ensures ∙ c.if-not-is_idle.false in (
      c.loop-i.invariant.0,
      sound-turn a.rows a.connections.now a.groups.now a.routes.now a.records.now c.loop-i.i c.loop-i.invariant.1
          (omega (arith, c.loop-i-test.true, c.loop-i.invariant.0))
          (sym c.if-not-is_quiet.false ∙ c.is_quiet.ensures ∙ idle_in a.rows _ _ _ c.loop-i.i _ c.loop-i-test.true idle),
    )

pub loop-i-2-init : goal.loop-i-2-init
loop-i-2-init c = c.loop-i.invariant

pub returns-then-not-is_sound : goal.returns-then-not-is_sound
returns-then-not-is_sound c =
    let a = c.args in
    sound_not a.rows a.connections.now a.groups.now a.routes.now a.records.now c.loop-i-2.i c.loop-i-2.invariant.1
    (omega (arith, c.loop-i-2-test.true, c.loop-i-2.invariant.0))
    (sym (row-in a.rows _ _ _ c.loop-i-2.i _ c.loop-i-2-test.true) ∙ sym c.is_sound.ensures ∙ c.if-not-is_sound.true)

pub loop-i-2-preserved : goal.loop-i-2-preserved
loop-i-2-preserved c =
    let a = c.args in (
      c.loop-i-2.invariant.0,
      sound-turn a.rows a.connections.now a.groups.now a.routes.now a.records.now c.loop-i-2.i c.loop-i-2.invariant.1
          (omega (arith, c.loop-i-2-test.true, c.loop-i-2.invariant.0))
          (sym c.if-not-is_sound.false ∙ c.is_sound.ensures ∙ row-in a.rows _ _ _ c.loop-i-2.i _ c.loop-i-2-test.true),
    )

pub loop-i-3-init : goal.loop-i-3-init
loop-i-3-init c = (c.loop-i-2-test.false, c.loop-i-2.invariant.1)

pub returns-then-not-is_zero : goal.returns-then-not-is_zero
returns-then-not-is_zero c =
    let a = c.args in
    sound_not a.rows a.connections.now a.groups.now a.routes.now a.records.now c.loop-i-3.i c.loop-i-3.invariant.1 c.loop-i-3-test.true
    (sym (past_in a.rows _ _ _ c.loop-i-3.i _ c.loop-i-3.invariant.0) ∙ sym c.is_zero.ensures ∙ c.if-not-is_zero.true)

pub loop-i-3-preserved : goal.loop-i-3-preserved
loop-i-3-preserved c =
    let a = c.args in (
      omega (arith, c.loop-i-3.invariant.0),
      sound-turn a.rows a.connections.now a.groups.now a.routes.now a.records.now c.loop-i-3.i c.loop-i-3.invariant.1 c.loop-i-3-test.true
          (sym c.if-not-is_zero.false ∙ c.is_zero.ensures ∙ past_in a.rows _ _ _ c.loop-i-3.i _ c.loop-i-3.invariant.0),
    )

pub returns : goal.returns
returns c =
    let a = c.args in
    sound-all a.rows a.connections.now a.groups.now a.routes.now a.records.now c.loop-i-3.i c.loop-i-3.invariant.1 c.loop-i-3-test.false
