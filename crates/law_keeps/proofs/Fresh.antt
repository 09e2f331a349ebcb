-- The fresh state of an accepted table passes the gate; without rows it is all zero.
use Rattle.std.proofs.Common.{Ok}
use Prim.Native.Nat.{ℕ, zero, suc, ◌≤◌}
use mathlib.Core.Path.{◌≡◌, refl, sym, ap, ap₂, ◌∙◌}
use mathlib.Core.Bool.{Bool, true, false}
use mathlib.Core.List.{List, [], ◌∷◌}
use native.Mathlib.Omega.{arith}
use lib.Dec.{ltb}
use lib.ListN.{replicate}
use borrow.Author.Tests.{ltb-true, ltb-false}
use Rattle.wire.specs.Be.{be}
use Rattle.table_layout.specs.Layout.{rows_of, body_of, row_of}
use Rattle.table_layout.specs.declared.Kind.TheVariants.{Connection as Connections}
use Rattle.table_layout.proofs.Parts.{row_none, body-rows}
use Rattle.table_rows.specs.Rows.{connection_row}
use Rattle.table.specs.Table.{check_table}
use Rattle.table.proofs.Facts.{accepted_facts}
use Rattle.connection.specs.declared.Connection.{Connection}
use Rattle.connection.specs.Connection.{fresh_of, zero_record}
use Rattle.connection.proofs.Keeps.{fresh-sound}
use Rattle.lists.specs.Each.{each}
use Rattle.lists.proofs.Each.{all_changed}
use Rattle.state.specs.declared.State.{State}
use Rattle.state.specs.Fresh.{config_of, fresh_at, fresh_state, empty_state}
use Rattle.state.specs.State.{with_records}
use Rattle.gate.specs.Lent.{Lent}
use Rattle.gate.specs.Sound.{sound_at, records_sound}
use Rattle.gate.specs.Gate.{Passed}
use Rattle.gate.proofs.Pass.{passed_by}
use Rattle.gate.proofs.Records.{sound-row, zero-past}

module _ (image : List ℕ) (accepted : check_table image ≡ Ok tt) where
  -- past the rows the fresh record is the zero record
  no_row : (i : ℕ) → rows_of image Connections ≤ i → row_of image Connections i ≡ []
  no_row i h = sym (row_none 16 (body_of image Connections) i (rw (body-rows image (accepted_facts image accepted).laid Connections) h))

  pub fresh-past : (i : ℕ) → rows_of image Connections ≤ i → fresh_of (config_of image i) ≡ zero_record
  unfolding config_of connection_row be
  fresh-past i h = rw (no_row i h)

  fresh_at_lem : (i : ℕ) (c : Connection) → sound_at image i (fresh_at image i c) ≡ true
  fresh_at_lem i c = go (ltb i (rows_of image Connections)) refl
    where
      go : (b : Bool) → ltb i (rows_of image Connections) ≡ b → sound_at image i (fresh_of (config_of image i)) ≡ true
      go true e = sound-row image i (fresh_of (config_of image i)) (ltb-true _ _ e) (fresh-sound (config_of image i)) refl
      go false e = rw (fresh-past i (ltb-false _ _ e)) (zero-past image i (ltb-false _ _ e))

  pub fresh-all : records_sound image (fresh_state image).connections ≡ true
  unfolding fresh_state records_sound
  fresh-all = all_changed (sound_at image) (fresh_at image) fresh_at_lem 0 (replicate 16 zero_record)

  -- R2.13, the state of the empty table: with no rows the fresh state is all zero
  zeros : rows_of image Connections ≡ 0 → (n k : ℕ) → each (fresh_at image) k (replicate n zero_record) ≡ replicate n zero_record
  zeros e zero k = refl
  zeros e (suc n) k = ap₂ ◌∷◌ (fresh-past k (omega arith)) (zeros e n (suc k))

  pub fresh_empty : rows_of image Connections ≡ 0 → fresh_state image ≡ empty_state
  unfolding fresh_state
  fresh_empty e = ap (λ (l : List Connection). with_records l empty_state) (zeros e 16 0)

-- so it passes the gate, with memory of the right lengths
pub fresh-passed : (l : Lent) → check_table l.image ≡ Ok tt → l.state ≡ fresh_state l.image → l.rx ≡ 23424 → l.tx ≡ 23552 → Passed l
fresh-passed l ok e rx tx = passed_by l rx tx ok (ap (λ (t : State). records_sound l.image t.connections) e ∙ fresh-all l.image ok)
