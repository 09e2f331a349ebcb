-- `gate::are_sound` meets its contract.
use mathlib.Core.Path.{◌∙◌}
use Rattle.table_layout.specs.declared.Kind.TheVariants.{Connection as Connections}
use Rattle.table_layout.proofs.Parts.{body-rows}
use Rattle.gate.proofs.Records.{records-in}
use Rattle.gate.proofs.are_sound.Goals as goal

pub each_sound-requires : goal.each_sound-requires
each_sound-requires c =
    rw (c.body_laid-connections.ensures.bytes, body-rows _ c.requires.0 Connections) c.requires.1

pub returns : goal.returns
returns c =
    c.each_sound.ensures ∙ records-in _ c.requires.0 _ _ _ _
    c.body_laid-connections.ensures.bytes c.body_laid-groups.ensures.bytes c.body_laid-routes.ensures.bytes
