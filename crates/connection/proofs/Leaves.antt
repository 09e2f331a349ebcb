-- What an event of the record alone leaves of the bytes held and of the mode: said once for every law above.
use mathlib.Core.Path.{◌≡◌, refl, sym}
use mathlib.Core.Bool.{true, false, cond}
use Rattle.receive_part.specs.Part.{ready_part}
use Rattle.lists.proofs.Both.{impossible}
use Rattle.connection.specs.declared.Connection.{Connection}
use Rattle.connection.specs.declared.Config.{Config}
use Rattle.connection.specs.declared.Event.{Event}
use Rattle.connection.specs.declared.Event.TheVariants.{Open, Close, Connected, Lost, SetRemote, Switch, Cancel}
use Rattle.connection.specs.Connection.{is_online}
use Rattle.connection.specs.Event.{known, allowed, record_after, empties, deniable}

pub record Leaves (e : Event) (g : Config) (c : Connection) : Type 0 where
  pub part : (record_after e g c).part ≡ cond (empties e) ready_part c.part
  pub used : (record_after e g c).used ≡ cond (empties e) 0 c.used
  pub up : empties e ≡ false → is_online c.mode ≡ true → is_online (record_after e g c).mode ≡ true
  pub there : empties e ≡ true → known e ≡ true
  pub down : empties e ≡ true → is_online (record_after e g c).mode ≡ false

pub after-leaves : (e : Event) (g : Config) (c : Connection) → Leaves e g c
after-leaves Open g c = record { part = refl; used = refl; up = λ _ h. h; there = λ n. impossible n; down = λ n. impossible n }
after-leaves Close g c = record { part = refl; used = refl; up = λ _ h. h; there = λ n. impossible n; down = λ n. impossible n }
after-leaves Connected g c = record { part = refl; used = refl; up = λ _ h. refl; there = λ n. impossible n; down = λ n. impossible n }
after-leaves Lost g c = record { part = refl; used = refl; up = λ n. impossible (sym n); there = λ _. refl; down = λ _. refl }
after-leaves (SetRemote r) g c = record { part = refl; used = refl; up = λ _ h. h; there = λ n. impossible n; down = λ n. impossible n }
after-leaves (Switch n on) g c = record { part = refl; used = refl; up = λ _ h. h; there = λ n. impossible n; down = λ n. impossible n }
after-leaves Cancel g c = record { part = refl; used = refl; up = λ _ h. h; there = λ n. impossible n; down = λ n. impossible n }

pub not_denied : (e : Event) (g : Config) (c : Connection) → deniable e ≡ false → allowed e g c ≡ true
not_denied Open g c n = impossible (sym n)
not_denied Close g c n = impossible (sym n)
not_denied Connected g c n = impossible (sym n)
not_denied Lost g c n = impossible (sym n)
not_denied (SetRemote r) g c n = impossible (sym n)
not_denied (Switch n on) g c _ = refl
not_denied Cancel g c n = impossible (sym n)

pub only_loss : (e : Event) → empties e ≡ true → e ≡ Lost
only_loss Open n = impossible n
only_loss Close n = impossible n
only_loss Connected n = impossible n
only_loss Lost n = refl
only_loss (SetRemote r) n = impossible n
only_loss (Switch m on) n = impossible n
only_loss Cancel n = impossible n
