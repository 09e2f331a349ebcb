-- One record of a sound state: what each event of it leaves sound, its route rule included.
use Prim.Native.Nat.{ℕ, ◌<◌}
use mathlib.Core.Path.{◌≡◌, refl, sym, subst}
use mathlib.Core.Bool.{Bool, true, false, cond}
use mathlib.Core.List.{List}
use lib.Dec.{ltb}
use lib.ListN.{length, get_or, get_or-eq_default}
use borrow.Author.Tests.{ltb-true, ltb-false}
use Rattle.table_layout.specs.Layout.{rows_of, body_of}
use Rattle.table_layout.specs.declared.Kind.TheVariants.{Connection as Connections, Route as Routes}
use Rattle.receive_part.specs.declared.Part.{Part}
use Rattle.receive_part.specs.Part.{ready_part}
use Rattle.connection.specs.declared.Config.{Config}
use Rattle.connection.specs.declared.Connection.{Connection}
use Rattle.connection.specs.declared.Event.{Event}
use Rattle.connection.specs.Connection.{zero_config, zero_record, switched_of, tick_of}
use Rattle.connection.specs.Event.{record_after, empties, step_of}
use Rattle.connection.specs.Sound.{Sound}
use Rattle.connection.proofs.Keeps.{bare_sound, step_keeps, switches-keep, tick_keeps}
use Rattle.connection.proofs.Leaves.{after-leaves}
use Rattle.connection.proofs.Ticks.{Tick, closes_wanted, lets_go, goes_on, tick_is, step-either}
use Rattle.state.specs.declared.State.{State}
use Rattle.state.specs.State.{record_at, with_record}
use Rattle.state.specs.Fresh.{config_of}
use Rattle.gate.specs.Sound.{routed, sound_at, records_sound}
use Rattle.gate.proofs.Records.{row-sound, row-routed, sound-row, record-at, record_set}

-- a part that is the old one, or the ready one
pub data Stays (p : Part) : Part → Type 0 where
  unchanged : Stays p p
  empty : Stays p ready_part

pub stays_same : {p q : Part} → q ≡ p → Stays p q
stays_same {p} e = subst (Stays p) (sym e) unchanged

stays-routed : (routes : List ℕ) (n : ℕ) {p q : Part} → Stays p q → routed routes n p ≡ true → routed routes n q ≡ true
stays-routed routes n unchanged h = h
stays-routed routes n empty h = refl

after-part : (e : Event) (g : Config) (c : Connection) → Stays c.part (record_after e g c).part
after-part e g c = go (empties e) (after-leaves e g c).part
  where
    go : (b : Bool) → (record_after e g c).part ≡ cond b ready_part c.part → Stays c.part (record_after e g c).part
    go true p = subst (Stays c.part) (sym p) empty
    go false p = stays_same p

step_part : (e : Event) (g : Config) (c : Connection) → Stays c.part (step_of e g c).connection.part
step_part e g c = step-either e g c (λ (d : Connection). Stays c.part d.part) (λ _. unchanged) (λ _. after-part e g c)

tick-part : (g : Config) (c : Connection) → Stays c.part (tick_of g c).part
tick-part g c = go (tick_of g c) (tick_is g c)
  where
    go : (d : Connection) → Tick g c d → Stays c.part d.part
    go d (closes_wanted e) = empty
    go d (lets_go e x) = unchanged
    go d (goes_on _ e x t) = stays_same t.part

zero-sound : (g : Config) → Sound g zero_record
zero-sound g = bare_sound g zero_config

-- the record of a row, in a list of any length
pub sound-row-at : (image : List ℕ) (cs : List Connection) (n : ℕ) → records_sound image cs ≡ true
    → n < rows_of image Connections → sound_at image n (get_or cs n zero_record) ≡ true
sound-row-at image cs n p h = go (ltb n (length cs)) refl
  where
    go : (b : Bool) → ltb n (length cs) ≡ b → sound_at image n (get_or cs n zero_record) ≡ true
    go true e = record-at image cs n p (ltb-true _ _ e)
    go false e = rw (get_or-eq_default cs zero_record (ltb-false _ _ e)) (sound-row image n zero_record h (zero-sound (config_of image n)) refl)

-- a row's record may be replaced by a sound one with the same receive part, or the ready one
row_changed : (image : List ℕ) (n : ℕ) (c d : Connection) → sound_at image n c ≡ true → n < rows_of image Connections
    → (Sound (config_of image n) c → Sound (config_of image n) d) → Stays c.part d.part
    → sound_at image n d ≡ true
row_changed image n c d p h keeps part =
    sound-row image n d h (keeps (row-sound image n c p h)) (stays-routed (body_of image Routes) n part (row-routed image n c p h))

pub row-set : (image : List ℕ) (s : State) (n : ℕ) (c : Connection) → records_sound image s.connections ≡ true → n < rows_of image Connections
    → (Sound (config_of image n) (record_at s n) → Sound (config_of image n) c)
    → Stays (record_at s n).part c.part → records_sound image (with_record n c s).connections ≡ true
row-set image s n c p h keeps part =
    record_set image s.connections n c p (row_changed image n (record_at s n) c (sound-row-at image s.connections n p h) h keeps part)

module _ (image : List ℕ) (n : ℕ) (c : Connection) (p : sound_at image n c ≡ true) (h : n < rows_of image Connections) where
  pub step-sound : (e : Event) → sound_at image n (step_of e (config_of image n) c).connection ≡ true
  step-sound e = row_changed image n c _ p h (λ s. step_keeps (config_of image n) c s e) (step_part e (config_of image n) c)

  pub switch_sound : (number : ℕ) (on : Bool) → sound_at image n (switched_of number on c) ≡ true
  switch_sound number on = row_changed image n c (switched_of number on c) p h (λ s. switches-keep (config_of image n) c s _) unchanged

  pub tick-sound : sound_at image n (tick_of (config_of image n) c) ≡ true
  tick-sound = row_changed image n c _ p h (tick_keeps (config_of image n) c) (tick-part (config_of image n) c)
