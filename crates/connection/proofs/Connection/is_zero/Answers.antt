-- `Connection::is_zero` meets its contract.
use mathlib.Core.Path.{refl, sym, ap, ◌∙◌}
use mathlib.Core.Bool.{not, ◌&&◌, ◌||◌}
use Rattle.receive_part.specs.Part.{empty_part}
use Rattle.connection.specs.declared.Connection.{Connection}
use Rattle.connection.specs.declared.Fields.{Fields}
use Rattle.connection.specs.Connection.{is_offline, wild_fields}
use Rattle.connection.proofs.Rules.{zero_not, zero_rest}
use Rattle.connection.proofs.Connection.is_zero.Goals as goal

pub returns-then-not-empty : goal.returns-then-not-empty
returns-then-not-empty c =
    zero_not _ (λ (x : Connection). not (empty_part x.part)) refl (sym (ap not c.is_empty-empty.ensures) ∙ c.if-not-empty.true-raw)

pub returns-then-self : goal.returns-then-self
returns-then-self c =
    zero_not _ (λ (x : Connection). x.open_wanted || x.close_wanted || x.due || x.watch.remote_set) refl c.if-self.true

pub returns-then-not-offline : goal.returns-then-not-offline
returns-then-not-offline c =
    zero_not _ (λ (x : Connection). not (is_offline x.mode)) refl (sym (ap not c.is_offline-offline.ensures) ∙ c.if-not-offline.true-raw)

pub returns-then-not-wild : goal.returns-then-not-wild
returns-then-not-wild c =
    zero_not _ (λ (x : Connection). not ((wild_fields x.remote).address && (wild_fields x.remote).port)) refl
    (sym (ap (λ (f : Fields). not (f.address && f.port)) c.wild_fields-wild.ensures) ∙ c.if-not-wild.true-raw)

pub returns : goal.returns
returns c =
    zero_rest _ (sym c.is_empty-empty.ensures ∙ c.if-not-empty.false) c.if-self.false
    (sym c.is_offline-offline.ensures ∙ c.if-not-offline.false)
    (sym (ap (λ (f : Fields). f.address && f.port) c.wild_fields-wild.ensures) ∙ c.if-not-wild.false)
