-- A TRANSMIT on the machine: it writes the frames that it appends, each byte of send memory elsewhere stays.
use Rattle.std.proofs.Common.{Result, Ok, Err}
use Prim.Native.Nat.{ℕ, suc, ◌+◌, ◌*◌, ◌≤◌, ◌<◌}
use mathlib.Core.Path.{◌≡◌, refl, sym, ◌∙◌, subst}
use mathlib.Core.Bool.{Bool, true, false, cond}
use mathlib.Core.List.{List}
use native.Mathlib.Omega.{arith}
use lib.ListN.{length}
use Rattle.wire.specs.Be.{byte_at}
use Rattle.frame.specs.Frame.{frame}
use Rattle.send_outbox.proofs.Laid.{frame-length}
use Rattle.lists.proofs.Fold.{fold_goes, fold_keeps}
use Rattle.table.proofs.Facts.{accepted_facts}
use Rattle.table_rows.specs.Rows.{destination_of}
use Rattle.connection.specs.declared.Connection.{Connection}
use Rattle.state.specs.declared.State.{State}
use Rattle.state.specs.State.{record_at}
use Rattle.gate.specs.Gate.{gate_of, through}
use Rattle.gate.proofs.Pass.{gate_passed}
use Rattle.send.specs.Verdict.{is_stored}
use Rattle.send.specs.Send.{destinations, Sending, sending, append_of, wanted_at, store_of, store_all, check_of, transmit_of, Ready}
use Rattle.send.proofs.Store.{wanted_apart}
use Rattle.entry_send.specs.Sending.{send_of, sent_memory}
use Rattle.entry_send.proofs.Past.{ready_from}
use Rattle.law_waits.proofs.Append.{append_other, append-long}
use Rattle.model.specs.Events.{transmit, on_whole}
use Rattle.model_refines.specs.Machine.{Machine, lent_to, loan_to}
use Rattle.theorem_writes.specs.Writes.{Within, FrameWrites, WritesTx, by_transmit}
use Rattle.theorem_writes.proofs.Laid.{lay_other}
use Rattle.connection.specs.declared.Refusal.{Refusal}
use Rattle.send.specs.declared.NotSent.{NotSent}

module _ (image : List ℕ) (m : Machine) (pdu : ℕ) (payload : List ℕ) where
  abbrev s : State
  s = m.state

  abbrev dest : ℕ → ℕ
  dest d = (destination_of image d).connection

  -- THE STORE, row after row
  module _ (ready : Ready image) (i : ℕ) where
    -- before row d: the byte is as it was, and a wanted row from d on has its record of the call
    abbrev Kept : ℕ → Sending → Type 0
    Kept d x = (byte_at x.memory i ≡ byte_at m.tx i)
        × ((j : ℕ) → d ≤ j → j < destinations image → wanted_at image s pdu payload j ≡ true → record_at x.state (dest j) ≡ record_at s (dest j))

    append_kept : (d : ℕ) (x : Sending) → record_at x.state (dest d) ≡ record_at s (dest d)
        → (FrameWrites image m d payload i → ⊥) → byte_at (append_of (destination_of image d) payload x).memory i ≡ byte_at x.memory i
    unfolding append_of
    append_kept d x e not =
        lay_other x.memory (dest d * 1472 + (record_at x.state (dest d)).used) (frame (destination_of image d).id payload) i
        (λ w. not (subst (λ (c : Connection). Within (dest d * 1472 + c.used) (8 + length payload) i) e
        (subst (λ (n : ℕ). Within (dest d * 1472 + (record_at x.state (dest d)).used) n i) (frame-length (destination_of image d).id payload) w)))

    store_kept : ((d : ℕ) → d < destinations image → wanted_at image s pdu payload d ≡ true → FrameWrites image m d payload i → ⊥)
        → (d : ℕ) (x : Sending) → d < destinations image → Kept d x → Kept (suc d) (store_of image s pdu payload x d)
    unfolding store_of
    store_kept not d x h kept = go (wanted_at image s pdu payload d) refl
      where
        go : (b : Bool) → wanted_at image s pdu payload d ≡ b → Kept (suc d) (cond b (append_of (destination_of image d) payload x) x)
        go false w = (kept.0, λ j l u q. kept.1 j (omega arith) u q)
        go true w = (
          append_kept d x (kept.1 d (omega arith) h w) (not d h w) ∙ kept.0,
          λ j l u q.
              append_other (destination_of image d) payload x (dest j) (λ e. wanted_apart image s pdu payload ready d j (omega arith) u w q (sym e))
              ∙ kept.1 j (omega arith) u q,
        )

    stored_kept : ((d : ℕ) → d < destinations image → wanted_at image s pdu payload d ≡ true → FrameWrites image m d payload i → ⊥)
        → byte_at (store_all image s pdu payload m.tx).memory i ≡ byte_at m.tx i
    unfolding store_all
    stored_kept not =
        (fold_goes (store_of image s pdu payload) Kept (destinations image) 0 (sending s m.tx)
        (λ d x l u kept. store_kept not d x (omega arith) kept) (refl, λ j l u q. refl)).0

  -- THE EVENT
  pub sent-stays : (i : ℕ) → (WritesTx image m (on_whole (transmit pdu payload)) i → ⊥) → byte_at (sent_memory (loan_to image m) pdu payload) i ≡ byte_at m.tx i
  unfolding sent_memory transmit_of send_of
  sent-stays i not = gate (gate_of (lent_to image m)) refl
    where
      check : Result Unit NotSent
      check = check_of image s pdu (length payload)

      past : gate_of (lent_to image m) ≡ Ok tt → (b : Bool) → is_stored check ≡ b
          → byte_at (cond b (store_all image s pdu payload m.tx) (sending s m.tx)).memory i ≡ byte_at m.tx i
      past g false e = refl
      past g true e =
          stored_kept (ready_from image (accepted_facts image (gate_passed (lent_to image m) g).table)) i
          (λ d l w at. not (by_transmit pdu payload d i (rw g e) l w at))

      gate : (g : Result Unit Refusal) → gate_of (lent_to image m) ≡ g
          → byte_at (through g (λ r. m.tx) (cond (is_stored check) (store_all image s pdu payload m.tx) (sending s m.tx)).memory) i ≡ byte_at m.tx i
      gate (Ok tt) e = past e (is_stored check) refl
      gate (Err r) e = refl

  -- and send memory is as long as it was
  store_long : (x : Sending) (d : ℕ) → length (store_of image s pdu payload x d).memory ≡ length x.memory
  unfolding store_of
  store_long x d = go (wanted_at image s pdu payload d)
    where
      go : (b : Bool) → length (cond b (append_of (destination_of image d) payload x) x).memory ≡ length x.memory
      go true = append-long (destination_of image d) payload x
      go false = refl

  pub sent-long : length (sent_memory (loan_to image m) pdu payload) ≡ length m.tx
  unfolding sent_memory transmit_of store_all
  sent-long = go (gate_of (lent_to image m)) (is_stored (check_of image s pdu (length payload)))
    where
      go : (g : Result Unit Refusal) (b : Bool) → length (through g (λ r. m.tx) (cond b (store_all image s pdu payload m.tx)
          (sending s m.tx)).memory) ≡ length m.tx
      go (Ok tt) true =
          fold_keeps (store_of image s pdu payload) (λ (x : Sending). length x.memory ≡ length m.tx) (destinations image) 0 (sending s m.tx)
          (λ d x l u e. store_long x d ∙ e) refl
      go (Ok tt) false = refl
      go (Err r) b = refl
