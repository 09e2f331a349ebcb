-- R19.7: WHAT ENDS A TRANSFER. Of all that happens to a record beside a take only a loss and a tick that closes end one, and these always do.
use mathlib.Core.Path.{◌≡◌, refl, ap, ◌∙◌}
use mathlib.Core.Bool.{Bool, true, false, cond, not, ◌&&◌}
use Rattle.receive_part.specs.declared.Part.{Part}
use Rattle.receive_part.specs.Part.{ready_part, transferring}
use Rattle.connection.specs.declared.Connection.{Connection}
use Rattle.connection.specs.declared.Config.{Config}
use Rattle.connection.specs.declared.Event.{Event}
use Rattle.connection.specs.Connection.{tick_of, failed_of}
use Rattle.connection.specs.Event.{record_after, empties, step_of}
use Rattle.connection.proofs.Leaves.{after-leaves}
use Rattle.connection.proofs.Ticks.{step-either, tick-part}

-- whether a transfer has failed is a matter of the part alone
abbrev part_fails : Part → Part → Bool
part_fails p q = transferring p && not (transferring q)

never : (b : Bool) → (b && not b) ≡ false
never true = refl
never false = refl

pub always : (b : Bool) → (b && true) ≡ b
always true = refl
always false = refl

-- a part that is emptied under a condition fails under that condition
emptied-fails : (k : Bool) (p : Part) → part_fails p (cond k ready_part p) ≡ (k && transferring p)
emptied-fails true p = always (transferring p)
emptied-fails false p = never (transferring p)

module _ (c d : Connection) where
  -- what leaves the part fails no transfer
  pub kept_fails : d.part ≡ c.part → failed_of c d ≡ false
  kept_fails e = ap (part_fails c.part) e ∙ never (transferring c.part)

  -- what empties it under a condition fails a running one under that condition
  pub ends-fails : (k : Bool) → d.part ≡ cond k ready_part c.part → failed_of c d ≡ (k && transferring c.part)
  ends-fails k e = ap (part_fails c.part) e ∙ emptied-fails k c.part

module _ (g : Config) (c : Connection) where
  -- a tick that closes, and no other
  pub tick-fails : failed_of c (tick_of g c) ≡ (c.close_wanted && transferring c.part)
  tick-fails = ends-fails c (tick_of g c) c.close_wanted (tick-part g c)

  -- a loss that is allowed, and no other event of the record alone: no cancel, close, open, switch
  pub after-fails : (e : Event) → failed_of c (record_after e g c) ≡ (empties e && transferring c.part)
  after-fails e = ends-fails c (record_after e g c) (empties e) (after-leaves e g c).part

  pub step-fails : (e : Event) → empties e ≡ false → failed_of c (step_of e g c).connection ≡ false
  step-fails e n =
      step-either e g c (λ (d : Connection). failed_of c d ≡ false) (λ _. kept_fails c c refl)
      (λ _. after-fails e ∙ ap (λ (b : Bool). b && transferring c.part) n)
