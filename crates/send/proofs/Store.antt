-- The store, row after row, at the places where its loop stands.
use Prim.Native.Nat.{ℕ, ◌+◌, ◌*◌, ◌<◌, ◌≤◌}
use mathlib.Core.Path.{◌≡◌, refl, sym, ap, ap₂, ◌∙◌}
use mathlib.Core.Bool.{Bool, true, false, ◌&&◌}
use mathlib.Core.List.{List}
use native.Mathlib.Omega.{arith}
use lib.Dec.{eqb}
use lib.ListN.{length}
use lib.Seq.{get_or-set_other}
use borrow.Author.Tests.{eqb-true, eq-eqb, ne_eqb}
use Rattle.connection.specs.declared.Connection.{Connection}
use Rattle.connection.specs.Connection.{zero_record}
use Rattle.send_destination.specs.Destination.{sent_of}
use Rattle.lists.proofs.Both.{and_left}
use Rattle.lists.proofs.Each.{part_kept}
use Rattle.lists.proofs.Fold.{Folded, fold_start, fold_on, fold_ended}
use Rattle.send_outbox.specs.Outbox.{appended_of}
use Rattle.send_outbox.proofs.Laid.{appended_is}
use Rattle.switches.specs.Switches.{is_on}
use Rattle.table_rows.specs.declared.DestinationRow.{DestinationRow}
use Rattle.table_rows.specs.Rows.{destination_of}
use Rattle.state.specs.declared.State.{State}
use Rattle.state.specs.State.{record_at, with_record}
use Rattle.send.specs.Send.{destinations, Sending, sending, append_of, wanted_at, store_of, store_all, Ready}

-- one append, as the code makes it
appended : (payload : List ℕ) (d : DestinationRow) (next : State) (tx : List ℕ) (c : Connection) (tx' : List ℕ) → length payload ≤ 1464
    → c ≡ sent_of d ((record_at next d.connection).used + 8 + length payload) (record_at next d.connection)
    → tx' ≡ appended_of tx (d.connection * 1472 + (record_at next d.connection).used) d.id payload
    → sending (with_record d.connection c next) tx' ≡ append_of d payload (sending next tx)
unfolding append_of
appended payload d next tx c tx' short ec et =
    ap₂ (λ (a : Connection) (t : List ℕ). sending (with_record d.connection a next) t) ec
    (et ∙ appended_is tx (d.connection * 1472 + (record_at next d.connection).used) d.id payload short)

hit : (image : List ℕ) (s : State) (pdu : ℕ) (payload : List ℕ) (x : Sending) (i : ℕ) → wanted_at image s pdu payload i ≡ true
    → append_of (destination_of image i) payload x ≡ store_of image s pdu payload x i
unfolding store_of
hit image s pdu payload x i w = rw w

module _ (image : List ℕ) (s : State) (pdu : ℕ) (payload : List ℕ) where
  -- row i, as the code finds it
  module _ (i : ℕ) (d : DestinationRow) (e : d ≡ destination_of image i) where
    abbrev wanted_from : DestinationRow → Bool
    wanted_from x = eqb x.pdu pdu && is_on x.groups (record_at s x.connection).switches

    pub wanted_other : (d.pdu ≡ pdu → ⊥) → wanted_at image s pdu payload i ≡ false
    unfolding wanted_at
    wanted_other ne = sym (ap wanted_from e) ∙ rw (ne_eqb _ _ ne)

    pub wanted_own : d.pdu ≡ pdu → (on : Bool) (w : ℕ) → on ≡ is_on d.groups w
        → w ≡ (record_at s d.connection).switches → wanted_at image s pdu payload i ≡ on
    unfolding wanted_at
    wanted_own same on w p q = sym (ap wanted_from e) ∙ rw (eq-eqb _ _ same) (sym (p ∙ ap (is_on d.groups) q))

  pub wanted_pdu : (i : ℕ) → wanted_at image s pdu payload i ≡ true → (destination_of image i).pdu ≡ pdu
  unfolding wanted_at
  wanted_pdu i w = eqb-true _ _ (and_left (eqb (destination_of image i).pdu pdu) _ w)

  -- of two wanted rows the connections differ
  pub wanted_apart : Ready image → (i j : ℕ) → i < j → j < destinations image → wanted_at image s pdu payload i ≡ true → wanted_at image s pdu payload j ≡ true
      → (destination_of image j).connection ≡ (destination_of image i).connection → ⊥
  wanted_apart r i j l h wi wj e = r.apart i j l h (wanted_pdu i wi ∙ sym (wanted_pdu j wj)) (sym e)

  module _ (tx₀ : List ℕ) where
    -- at row i: the rows below it are stored, a wanted one from i on has its record of the call, and no switch has moved
    pub record Storing (tx : List ℕ) (next : State) (i : ℕ) : Type 0 where
      pub folded : Folded (store_of image s pdu payload) (destinations image) (sending s tx₀) i (sending next tx)
      pub long : length tx ≡ length tx₀
      pub same : (j : ℕ) → i ≤ j → j < destinations image → wanted_at image s pdu payload j ≡ true
          → record_at next (destination_of image j).connection ≡ record_at s (destination_of image j).connection
      pub switched : (k : ℕ) → (record_at next k).switches ≡ (record_at s k).switches

    pub store_start : Storing tx₀ s 0
    store_start = record { folded = fold_start _ _ _; long = refl; same = λ j _ _ _. refl; switched = λ k. refl }

    module _ (tx : List ℕ) (next : State) (i : ℕ) (v : Storing tx next i) where
      pub store_skip : i < destinations image → wanted_at image s pdu payload i ≡ false → Storing tx next (i + 1)
      unfolding store_of
      store_skip h w =
          record {
            folded = fold_on _ _ _ i _ _ v.folded h (rw w);
            long = v.long;
            same = λ j l u q. v.same j (omega arith) u q;
            switched = v.switched;
          }

      pub store_on : Ready image → (d : DestinationRow) (c : Connection) (tx' : List ℕ)
          → i < destinations image → d ≡ destination_of image i → wanted_at image s pdu payload i ≡ true
          → length payload ≤ 1464
          → c ≡ sent_of d ((record_at next d.connection).used + 8 + length payload) (record_at next d.connection)
          → tx' ≡ appended_of tx (d.connection * 1472 + (record_at next d.connection).used) d.id payload
          → length tx' ≡ length tx
          → Storing tx' (with_record d.connection c next) (i + 1)
      store_on r d c tx' h e w short ec et el =
          record {
            folded = fold_on _ _ _ i _ _ v.folded h (appended payload d next tx c tx' short ec et
                ∙ ap (λ (x : DestinationRow). append_of x payload (sending next tx)) e ∙ hit image s pdu payload (sending next tx) i w);
            long = el ∙ v.long;
            same = λ j l u q.
                get_or-set_other next.connections d.connection (destination_of image j).connection c zero_record
                (λ z. wanted_apart r i j (omega arith) u w q (z ∙ ap (λ (x : DestinationRow). x.connection) e))
                ∙ v.same j (omega arith) u q;
            switched = λ k. part_kept zero_record (λ (x : Connection). x.switches) next.connections
                d.connection k c (ap (λ (x : Connection). x.switches) ec) ∙ v.switched k;
          }

      pub store_end : destinations image ≤ i → sending next tx ≡ store_all image s pdu payload tx₀
      unfolding store_all
      store_end h = fold_ended _ _ _ i _ v.folded h
