use Prim.Native.Nat.{ℕ, ◌+◌, ◌/◌, ◌<◌, ◌≤◌}
use mathlib.Core.Path.{◌≡◌, refl, sym, ap, ◌∙◌}
use mathlib.Core.Bool.{true}
use mathlib.Core.List.{List}
use native.Mathlib.Omega.{arith}
use lib.ListN.{length}
use borrow.Author.Tests.{not-true, not-false}
use Rattle.table_rows.specs.declared.DestinationRow.{DestinationRow}
use Rattle.table_rows.specs.Rows.{destination_in, destination_of}
use Rattle.state.specs.State.{record_at}
use Rattle.send_destination.specs.Reply.{reply_number}
use Rattle.send.specs.Inner.{seen_number}
use Rattle.send.specs.Verdict.{passes, join_of, is_stored}
use Rattle.send.specs.Send.{destinations, look_at, check_of, wanted_at}
use Rattle.send.proofs.Ends.{stored_ended, refused_ended, was_clear}
use Rattle.send.proofs.Pdu.{for_other, for_own}
use Rattle.send.proofs.Room.{clear_roomy}
use Rattle.send.proofs.Scan.{scan_start, scan_on, scan_skip, ended_clear, ended-refused, look_other, look_own}
use Rattle.send.proofs.Store.{store_skip, store_on, wanted_other, wanted_own}
use Rattle.send.proofs.transmit.Goals.{else-loop-i-test, then-loop-i-test+else-not-is_for+then-refuses}
use Rattle.send.proofs.transmit.Goals as goal

pub loop-i-init : goal.loop-i-init
loop-i-init c = (scan_start _ _, refl)

pub loop-i-preserved-then-not-is_for : goal.loop-i-preserved-then-not-is_for
loop-i-preserved-then-not-is_for c =
    let there : (i : ℕ) → destination_in c.body_laid-body.result.now i ≡ destination_of c.args.image.now i =
    λ i. ap (λ (b : List ℕ). destination_in b i) c.body_laid-body.ensures.bytes in
    let counted : length c.body_laid-body.result.now / 16 ≡ destinations c.args.image.now =
    ap (λ (b : List ℕ). length b / 16) c.body_laid-body.ensures.bytes in
    let inside : c.loop-i.i < destinations c.args.image.now = rw counted at c.loop-i-test.true in (
      scan_skip _ _ c.loop-i.i _ c.loop-i.invariant.0 inside
          (look_other _ _ _ _ c.loop-i.i _ (there c.loop-i.i) (for_other c.is_for.ensures c.if-not-is_for.true)),
      c.loop-i.invariant.1,
    )

pub loop-i-preserved : goal.loop-i-preserved
loop-i-preserved c =
    let there : (i : ℕ) → destination_in c.body_laid-body.result.now i ≡ destination_of c.args.image.now i =
    λ i. ap (λ (b : List ℕ). destination_in b i) c.body_laid-body.ensures.bytes in
    let counted : length c.body_laid-body.result.now / 16 ≡ destinations c.args.image.now =
    ap (λ (b : List ℕ). length b / 16) c.body_laid-body.ensures.bytes in
    let inside : c.loop-i.i < destinations c.args.image.now = rw counted at c.loop-i-test.true in
    let row : c.row_at-d.result ≡ destination_of c.args.image.now c.loop-i.i = c.row_at-d.ensures ∙ there c.loop-i.i in
    let own : c.row_at-d.result.pdu ≡ c.args.pdu = ap (λ (d : DestinationRow). d.pdu) c.row_at-d.ensures
    ∙ for_own c.is_for.ensures c.if-not-is_for.false in
    let said : reply_number c.look_in-found.result ≡ look_at c.args.image.now c.args.s c.args.pdu (length c.args.payload.now) c.loop-i.i =
    look_own _ _ _ _ c.loop-i.i _ row own _ c.body_laid-connections.ensures.bytes _ c.look_in-found.ensures in (
      scan_on _ _ c.loop-i.i _ c.loop-i.invariant.0 _ inside
          (sym (ap passes said) ∙ not-false (passes (reply_number c.look_in-found.result)) (sym c.refuses.ensures ∙ c.if-refuses.false))
          (c.join-seen.ensures ∙ ap (join_of (seen_number c.loop-i.seen)) said),
      c.loop-i.invariant.1,
    )

pub returns-then-not-is_stored-clause-value : goal.returns-then-not-is_stored-clause-value
unfolding check_of
returns-then-not-is_stored-clause-value c =
    let there : (i : ℕ) → destination_in c.body_laid-body.result.now i ≡ destination_of c.args.image.now i =
    λ i. ap (λ (b : List ℕ). destination_in b i) c.body_laid-body.ensures.bytes in
    let counted : length c.body_laid-body.result.now / 16 ≡ destinations c.args.image.now =
    ap (λ (b : List ℕ). length b / 16) c.body_laid-body.ensures.bytes in
    let checked : let a = c.args in
    c.verdict-answer.result ≡ check_of a.image.now a.s a.pdu (length a.payload.now) = c.verdict-answer.ensures
    ∙ elim c.loop-i-test.branch [
      | else-loop-i-test w ↦ ended_clear _ _ c.loop-i.i _ c.loop-i.invariant.0 _ (w.refused-is ∙ c.loop-i.invariant.1) (rw counted at w.loop-i-test.false)
      | then-loop-i-test+else-not-is_for+then-refuses w ↦
          let here : c.loop-i.i < destinations c.args.image.now = rw counted at w.loop-i-test.true in
          let is : w.row_at-d.result ≡ destination_of c.args.image.now c.loop-i.i = w.row_at-d.ensures ∙ there c.loop-i.i in
          let its : w.row_at-d.result.pdu ≡ c.args.pdu = ap (λ (d : DestinationRow). d.pdu) w.row_at-d.ensures
          ∙ for_own w.is_for.ensures w.if-not-is_for.false in
          let told : reply_number w.look_in-found.result ≡ look_at c.args.image.now c.args.s c.args.pdu (length c.args.payload.now) c.loop-i.i =
          look_own _ _ _ _ c.loop-i.i _ is its _ c.body_laid-connections.ensures.bytes _ w.look_in-found.ensures in
          ended-refused _ _ c.loop-i.i _ c.loop-i.invariant.0 _ _ w.refused-is told here
          (sym (ap passes told) ∙ not-true (passes (reply_number w.look_in-found.result)) (sym w.refuses.ensures ∙ w.if-refuses.true))
    ] in
    (refused_ended _ _ _ _ _ _ checked (sym c.is_stored.ensures ∙ c.if-not-is_stored.true)).0

pub returns-then-not-is_stored-clause-tx_after : goal.returns-then-not-is_stored-clause-tx_after
unfolding check_of
returns-then-not-is_stored-clause-tx_after c =
    let there : (i : ℕ) → destination_in c.body_laid-body.result.now i ≡ destination_of c.args.image.now i =
    λ i. ap (λ (b : List ℕ). destination_in b i) c.body_laid-body.ensures.bytes in
    let counted : length c.body_laid-body.result.now / 16 ≡ destinations c.args.image.now =
    ap (λ (b : List ℕ). length b / 16) c.body_laid-body.ensures.bytes in
    let checked : let a = c.args in
    c.verdict-answer.result ≡ check_of a.image.now a.s a.pdu (length a.payload.now) = c.verdict-answer.ensures
    ∙ elim c.loop-i-test.branch [
      | else-loop-i-test w ↦ ended_clear _ _ c.loop-i.i _ c.loop-i.invariant.0 _ (w.refused-is ∙ c.loop-i.invariant.1) (rw counted at w.loop-i-test.false)
      | then-loop-i-test+else-not-is_for+then-refuses w ↦
          let here : c.loop-i.i < destinations c.args.image.now = rw counted at w.loop-i-test.true in
          let is : w.row_at-d.result ≡ destination_of c.args.image.now c.loop-i.i = w.row_at-d.ensures ∙ there c.loop-i.i in
          let its : w.row_at-d.result.pdu ≡ c.args.pdu = ap (λ (d : DestinationRow). d.pdu) w.row_at-d.ensures
          ∙ for_own w.is_for.ensures w.if-not-is_for.false in
          let told : reply_number w.look_in-found.result ≡ look_at c.args.image.now c.args.s c.args.pdu (length c.args.payload.now) c.loop-i.i =
          look_own _ _ _ _ c.loop-i.i _ is its _ c.body_laid-connections.ensures.bytes _ w.look_in-found.ensures in
          ended-refused _ _ c.loop-i.i _ c.loop-i.invariant.0 _ _ w.refused-is told here
          (sym (ap passes told) ∙ not-true (passes (reply_number w.look_in-found.result)) (sym w.refuses.ensures ∙ w.if-refuses.true))
    ] in
    (refused_ended _ _ _ _ _ _ checked (sym c.is_stored.ensures ∙ c.if-not-is_stored.true)).1

pub loop-j-preserved-then-not-is_for-2 : goal.loop-j-preserved-then-not-is_for-2
loop-j-preserved-then-not-is_for-2 c =
    let there : (i : ℕ) → destination_in c.body_laid-body.result.now i ≡ destination_of c.args.image.now i =
    λ i. ap (λ (b : List ℕ). destination_in b i) c.body_laid-body.ensures.bytes in
    let counted : length c.body_laid-body.result.now / 16 ≡ destinations c.args.image.now =
    ap (λ (b : List ℕ). length b / 16) c.body_laid-body.ensures.bytes in
    let inside2 : c.loop-j.j < destinations c.args.image.now = rw counted at c.loop-j-test.true in
    store_skip _ _ _ _ _ _ _ c.loop-j.j c.loop-j.invariant inside2
    (wanted_other _ _ _ _ c.loop-j.j _ (there c.loop-j.j) (for_other c.is_for-in-loop-j.ensures c.if-not-is_for-2.true))

pub loop-j-preserved-then-not-is_on : goal.loop-j-preserved-then-not-is_on
loop-j-preserved-then-not-is_on c =
    let there : (i : ℕ) → destination_in c.body_laid-body.result.now i ≡ destination_of c.args.image.now i =
    λ i. ap (λ (b : List ℕ). destination_in b i) c.body_laid-body.ensures.bytes in
    let counted : length c.body_laid-body.result.now / 16 ≡ destinations c.args.image.now =
    ap (λ (b : List ℕ). length b / 16) c.body_laid-body.ensures.bytes in
    let inside2 : c.loop-j.j < destinations c.args.image.now = rw counted at c.loop-j-test.true in
    let row2 : c.row_at-d-in-loop-j.result ≡ destination_of c.args.image.now c.loop-j.j = c.row_at-d-in-loop-j.ensures ∙ there c.loop-j.j in
    let own2 : c.row_at-d-in-loop-j.result.pdu ≡ c.args.pdu = ap (λ (d : DestinationRow). d.pdu) c.row_at-d-in-loop-j.ensures
    ∙ for_own c.is_for-in-loop-j.ensures c.if-not-is_for-2.false in
    let asked : let a = c.args in
    wanted_at a.image.now a.s a.pdu a.payload.now c.loop-j.j ≡ c.is_on.result = wanted_own _ _ _ _ c.loop-j.j _ row2 own2 _ _
    c.is_on.ensures (c.loop-j.invariant.switched c.row_at-d-in-loop-j.result.connection) in
    store_skip _ _ _ _ _ _ _ c.loop-j.j c.loop-j.invariant inside2 (asked ∙ c.if-not-is_on.true)

pub put-after-requires : goal.put-after-requires
unfolding check_of
put-after-requires c =
    let there : (i : ℕ) → destination_in c.body_laid-body.result.now i ≡ destination_of c.args.image.now i =
    λ i. ap (λ (b : List ℕ). destination_in b i) c.body_laid-body.ensures.bytes in
    let counted : length c.body_laid-body.result.now / 16 ≡ destinations c.args.image.now =
    ap (λ (b : List ℕ). length b / 16) c.body_laid-body.ensures.bytes in
    let checked : let a = c.args in
    c.verdict-answer.result ≡ check_of a.image.now a.s a.pdu (length a.payload.now) = c.verdict-answer.ensures
    ∙ elim c.loop-i-test.branch [
      | else-loop-i-test w ↦ ended_clear _ _ c.loop-i.i _ c.loop-i.invariant.0 _ (w.refused-is ∙ c.loop-i.invariant.1) (rw counted at w.loop-i-test.false)
      | then-loop-i-test+else-not-is_for+then-refuses w ↦
          let here : c.loop-i.i < destinations c.args.image.now = rw counted at w.loop-i-test.true in
          let is : w.row_at-d.result ≡ destination_of c.args.image.now c.loop-i.i = w.row_at-d.ensures ∙ there c.loop-i.i in
          let its : w.row_at-d.result.pdu ≡ c.args.pdu = ap (λ (d : DestinationRow). d.pdu) w.row_at-d.ensures
          ∙ for_own w.is_for.ensures w.if-not-is_for.false in
          let told : reply_number w.look_in-found.result ≡ look_at c.args.image.now c.args.s c.args.pdu (length c.args.payload.now) c.loop-i.i =
          look_own _ _ _ _ c.loop-i.i _ is its _ c.body_laid-connections.ensures.bytes _ w.look_in-found.ensures in
          ended-refused _ _ c.loop-i.i _ c.loop-i.invariant.0 _ _ w.refused-is told here
          (sym (ap passes told) ∙ not-true (passes (reply_number w.look_in-found.result)) (sym w.refuses.ensures ∙ w.if-refuses.true))
    ] in
    let stored : is_stored c.verdict-answer.result ≡ true = sym c.is_stored.ensures ∙ c.if-not-is_stored.false in
    let inside2 : c.loop-j.j < destinations c.args.image.now = rw counted at c.loop-j-test.true in
    let row2 : c.row_at-d-in-loop-j.result ≡ destination_of c.args.image.now c.loop-j.j = c.row_at-d-in-loop-j.ensures ∙ there c.loop-j.j in
    let own2 : c.row_at-d-in-loop-j.result.pdu ≡ c.args.pdu = ap (λ (d : DestinationRow). d.pdu) c.row_at-d-in-loop-j.ensures
    ∙ for_own c.is_for-in-loop-j.ensures c.if-not-is_for-2.false in
    let small : c.row_at-d-in-loop-j.result.connection < 16 = rw row2 (c.requires.0.there c.loop-j.j inside2) in
    let asked : let a = c.args in
    wanted_at a.image.now a.s a.pdu a.payload.now c.loop-j.j ≡ c.is_on.result = wanted_own _ _ _ _ c.loop-j.j _ row2 own2 _ _
    c.is_on.ensures (c.loop-j.invariant.switched c.row_at-d-in-loop-j.result.connection) in
    let wants : let a = c.args in
    wanted_at a.image.now a.s a.pdu a.payload.now c.loop-j.j ≡ true = asked ∙ c.if-not-is_on.false in
    let roomy : (record_at c.loop-j.next c.row_at-d-in-loop-j.result.connection).used + 8 + length c.args.payload.now ≤ 1472 =
    let e : record_at c.loop-j.next c.row_at-d-in-loop-j.result.connection
    ≡ record_at c.args.s (destination_of c.args.image.now c.loop-j.j).connection =
    ap (λ (d : DestinationRow). record_at c.loop-j.next d.connection) row2
    ∙ c.loop-j.invariant.same c.loop-j.j (omega arith) inside2 wants in
    rw e
    (clear_roomy _ _ _ _ (was_clear _ _ _ c.args.payload.now c.args.tx.now _ checked stored) c.requires.0
    c.loop-j.j inside2 wants) in
    (small, roomy)

pub loop-j-preserved : goal.loop-j-preserved
unfolding check_of
loop-j-preserved c =
    let there : (i : ℕ) → destination_in c.body_laid-body.result.now i ≡ destination_of c.args.image.now i =
    λ i. ap (λ (b : List ℕ). destination_in b i) c.body_laid-body.ensures.bytes in
    let counted : length c.body_laid-body.result.now / 16 ≡ destinations c.args.image.now =
    ap (λ (b : List ℕ). length b / 16) c.body_laid-body.ensures.bytes in
    let checked : let a = c.args in
    c.verdict-answer.result ≡ check_of a.image.now a.s a.pdu (length a.payload.now) = c.verdict-answer.ensures
    ∙ elim c.loop-i-test.branch [
      | else-loop-i-test w ↦ ended_clear _ _ c.loop-i.i _ c.loop-i.invariant.0 _ (w.refused-is ∙ c.loop-i.invariant.1) (rw counted at w.loop-i-test.false)
      | then-loop-i-test+else-not-is_for+then-refuses w ↦
          let here : c.loop-i.i < destinations c.args.image.now = rw counted at w.loop-i-test.true in
          let is : w.row_at-d.result ≡ destination_of c.args.image.now c.loop-i.i = w.row_at-d.ensures ∙ there c.loop-i.i in
          let its : w.row_at-d.result.pdu ≡ c.args.pdu = ap (λ (d : DestinationRow). d.pdu) w.row_at-d.ensures
          ∙ for_own w.is_for.ensures w.if-not-is_for.false in
          let told : reply_number w.look_in-found.result ≡ look_at c.args.image.now c.args.s c.args.pdu (length c.args.payload.now) c.loop-i.i =
          look_own _ _ _ _ c.loop-i.i _ is its _ c.body_laid-connections.ensures.bytes _ w.look_in-found.ensures in
          ended-refused _ _ c.loop-i.i _ c.loop-i.invariant.0 _ _ w.refused-is told here
          (sym (ap passes told) ∙ not-true (passes (reply_number w.look_in-found.result)) (sym w.refuses.ensures ∙ w.if-refuses.true))
    ] in
    let stored : is_stored c.verdict-answer.result ≡ true = sym c.is_stored.ensures ∙ c.if-not-is_stored.false in
    let inside2 : c.loop-j.j < destinations c.args.image.now = rw counted at c.loop-j-test.true in
    let row2 : c.row_at-d-in-loop-j.result ≡ destination_of c.args.image.now c.loop-j.j = c.row_at-d-in-loop-j.ensures ∙ there c.loop-j.j in
    let own2 : c.row_at-d-in-loop-j.result.pdu ≡ c.args.pdu = ap (λ (d : DestinationRow). d.pdu) c.row_at-d-in-loop-j.ensures
    ∙ for_own c.is_for-in-loop-j.ensures c.if-not-is_for-2.false in
    let asked : let a = c.args in
    wanted_at a.image.now a.s a.pdu a.payload.now c.loop-j.j ≡ c.is_on.result = wanted_own _ _ _ _ c.loop-j.j _ row2 own2 _ _
    c.is_on.ensures (c.loop-j.invariant.switched c.row_at-d-in-loop-j.result.connection) in
    let wants : let a = c.args in
    wanted_at a.image.now a.s a.pdu a.payload.now c.loop-j.j ≡ true = asked ∙ c.if-not-is_on.false in
    let roomy : (record_at c.loop-j.next c.row_at-d-in-loop-j.result.connection).used + 8 + length c.args.payload.now ≤ 1472 =
    let e : record_at c.loop-j.next c.row_at-d-in-loop-j.result.connection
    ≡ record_at c.args.s (destination_of c.args.image.now c.loop-j.j).connection =
    ap (λ (d : DestinationRow). record_at c.loop-j.next d.connection) row2
    ∙ c.loop-j.invariant.same c.loop-j.j (omega arith) inside2 wants in
    rw e
    (clear_roomy _ _ _ _ (was_clear _ _ _ c.args.payload.now c.args.tx.now _ checked stored) c.requires.0
    c.loop-j.j inside2 wants) in
    let r = roomy in
    store_on _ _ _ _ _ _ _ c.loop-j.j c.loop-j.invariant c.requires.0 _ _ _ inside2 row2
    wants (omega (arith, r)) c.put-after.ensures.value c.put-after.ensures.tx_after c.put-after.auto.tx

pub returns-clause-value : goal.returns-clause-value
unfolding check_of
returns-clause-value c =
    let there : (i : ℕ) → destination_in c.body_laid-body.result.now i ≡ destination_of c.args.image.now i =
    λ i. ap (λ (b : List ℕ). destination_in b i) c.body_laid-body.ensures.bytes in
    let counted : length c.body_laid-body.result.now / 16 ≡ destinations c.args.image.now =
    ap (λ (b : List ℕ). length b / 16) c.body_laid-body.ensures.bytes in
    let checked : let a = c.args in
    c.verdict-answer.result ≡ check_of a.image.now a.s a.pdu (length a.payload.now) = c.verdict-answer.ensures
    ∙ elim c.loop-i-test.branch [
      | else-loop-i-test w ↦ ended_clear _ _ c.loop-i.i _ c.loop-i.invariant.0 _ (w.refused-is ∙ c.loop-i.invariant.1) (rw counted at w.loop-i-test.false)
      | then-loop-i-test+else-not-is_for+then-refuses w ↦
          let here : c.loop-i.i < destinations c.args.image.now = rw counted at w.loop-i-test.true in
          let is : w.row_at-d.result ≡ destination_of c.args.image.now c.loop-i.i = w.row_at-d.ensures ∙ there c.loop-i.i in
          let its : w.row_at-d.result.pdu ≡ c.args.pdu = ap (λ (d : DestinationRow). d.pdu) w.row_at-d.ensures
          ∙ for_own w.is_for.ensures w.if-not-is_for.false in
          let told : reply_number w.look_in-found.result ≡ look_at c.args.image.now c.args.s c.args.pdu (length c.args.payload.now) c.loop-i.i =
          look_own _ _ _ _ c.loop-i.i _ is its _ c.body_laid-connections.ensures.bytes _ w.look_in-found.ensures in
          ended-refused _ _ c.loop-i.i _ c.loop-i.invariant.0 _ _ w.refused-is told here
          (sym (ap passes told) ∙ not-true (passes (reply_number w.look_in-found.result)) (sym w.refuses.ensures ∙ w.if-refuses.true))
    ] in
    let stored : is_stored c.verdict-answer.result ≡ true = sym c.is_stored.ensures ∙ c.if-not-is_stored.false in
    (stored_ended _ _ _ _ _ _ checked stored _ _ c.loop-j.j c.loop-j.invariant (rw counted at c.loop-j-test.false)).0

pub returns-clause-tx_after : goal.returns-clause-tx_after
unfolding check_of
returns-clause-tx_after c =
    let there : (i : ℕ) → destination_in c.body_laid-body.result.now i ≡ destination_of c.args.image.now i =
    λ i. ap (λ (b : List ℕ). destination_in b i) c.body_laid-body.ensures.bytes in
    let counted : length c.body_laid-body.result.now / 16 ≡ destinations c.args.image.now =
    ap (λ (b : List ℕ). length b / 16) c.body_laid-body.ensures.bytes in
    let checked : let a = c.args in
    c.verdict-answer.result ≡ check_of a.image.now a.s a.pdu (length a.payload.now) = c.verdict-answer.ensures
    ∙ elim c.loop-i-test.branch [
      | else-loop-i-test w ↦ ended_clear _ _ c.loop-i.i _ c.loop-i.invariant.0 _ (w.refused-is ∙ c.loop-i.invariant.1) (rw counted at w.loop-i-test.false)
      | then-loop-i-test+else-not-is_for+then-refuses w ↦
          let here : c.loop-i.i < destinations c.args.image.now = rw counted at w.loop-i-test.true in
          let is : w.row_at-d.result ≡ destination_of c.args.image.now c.loop-i.i = w.row_at-d.ensures ∙ there c.loop-i.i in
          let its : w.row_at-d.result.pdu ≡ c.args.pdu = ap (λ (d : DestinationRow). d.pdu) w.row_at-d.ensures
          ∙ for_own w.is_for.ensures w.if-not-is_for.false in
          let told : reply_number w.look_in-found.result ≡ look_at c.args.image.now c.args.s c.args.pdu (length c.args.payload.now) c.loop-i.i =
          look_own _ _ _ _ c.loop-i.i _ is its _ c.body_laid-connections.ensures.bytes _ w.look_in-found.ensures in
          ended-refused _ _ c.loop-i.i _ c.loop-i.invariant.0 _ _ w.refused-is told here
          (sym (ap passes told) ∙ not-true (passes (reply_number w.look_in-found.result)) (sym w.refuses.ensures ∙ w.if-refuses.true))
    ] in
    let stored : is_stored c.verdict-answer.result ≡ true = sym c.is_stored.ensures ∙ c.if-not-is_stored.false in
    (stored_ended _ _ _ _ _ _ checked stored _ _ c.loop-j.j c.loop-j.invariant (rw counted at c.loop-j-test.false)).1
