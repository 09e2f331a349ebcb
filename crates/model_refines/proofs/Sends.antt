-- A TRANSMIT: what it leaves in the state and in send memory is the world's transmit.
use Prim.Native.Nat.{ℕ, ◌+◌, ◌*◌, ◌<◌}
use mathlib.Core.Path.{◌≡◌, refl, sym, ap, ◌∙◌}
use mathlib.Core.Bool.{Bool, true, false, cond}
use mathlib.Core.List.{List, ◌++◌}
use native.Mathlib.Omega.{arith}
use lib.ListN.{length, set, take, drop}
use lib.Seq.{take-take}
use Rattle.frame.specs.Frame.{frame}
use Rattle.lists.specs.Fold.{fold_from}
use Rattle.lists.proofs.Fold.{fold_alike}
use Rattle.table_rows.specs.declared.DestinationRow.{DestinationRow}
use Rattle.table_rows.specs.Rows.{destination_of}
use Rattle.connection.specs.declared.Connection.{Connection}
use Rattle.state.specs.declared.State.{State}
use Rattle.state.specs.State.{record_at}
use Rattle.state.specs.Memory.{stretch}
use Rattle.table.specs.Accepts.{Accepts}
use Rattle.gate.specs.Sound.{records_sound}
use Rattle.send_destination.specs.Destination.{sent_of}
use Rattle.send.specs.Verdict.{is_stored}
use Rattle.send.specs.Send.{destinations, Sending, sending, append_of, check_of, wanted_at, store_of, store_all, transmit_of, Ready}
use Rattle.send.proofs.Room.{clear_roomy}
use Rattle.entry_send.proofs.Past.{ready_from}
use Rattle.law_waits.proofs.Append.{RoomThere, held-own, stretch_other}
use Rattle.law_waits.proofs.Held.{Fine, room-held, fine-step, begin-fine}
use Rattle.law_keeps.proofs.Transmitted.{all_fit}
use Rattle.model.specs.World.{Held, World, held_by, held_of, view_of}
use Rattle.model.proofs.View.{state_view, view_at, view_one}
use Rattle.model_refines.specs.Send.{with_frame, append_to, store_in, transmit_in}

-- the machine on the way
abbrev seen : List ℕ → Sending → World
seen rx x = view_of x.state rx x.memory

-- ONE APPEND, where header and payload fit the stretch
module _ (rx payload : List ℕ) (d : DestinationRow) (x : Sending) (r : RoomThere d payload x) where
  abbrev j : ℕ
  j = d.connection

  abbrev c : Connection
  c = record_at x.state j

  abbrev tx : List ℕ
  tx = x.memory

  abbrev tx' : List ℕ
  tx' = (append_of d payload x).memory

  abbrev c' : Connection
  c' = sent_of d (c.used + 8 + length payload) c

  waits : take (c.used + 8 + length payload) (stretch 1472 j tx') ≡ take c.used (stretch 1472 j tx) ++ frame d.id payload
  waits =
      take-take (c.used + 8 + length payload) 1472 (drop (j * 1472) tx') r.fits
      ∙ held-own d payload x r
      ∙ ap (λ (l : List ℕ). l ++ frame d.id payload) (sym (take-take c.used 1472 (drop (j * 1472) tx) (omega (arith, r.fits))))

  held-sent : held_of rx tx' j c' ≡ with_frame d payload (held_of rx tx j c)
  held-sent = ap (λ (l : List ℕ). record { connection = c'; received = take (held_by c.part) (stretch 1464 j rx); waiting = l }) waits

  append_view : seen rx (append_of d payload x) ≡ append_to d payload (seen rx x)
  unfolding append_of
  append_view =
      ap (λ (l : List Held). record { held = l; udp = x.state.udp_drops; tcp = x.state.tcp_drops })
      (view_one rx tx rx tx' j (λ i ne. refl) (stretch_other d payload x r) x.state.connections c'
      ∙ ap (λ (h : Held). set (seen rx x).held j h) (held-sent ∙ ap (with_frame d payload) (sym (view_at x.state rx tx j))))

-- ALL OF THEM, where the check refuses nothing
module _ (image rx tx payload : List ℕ) (s : State) (pdu : ℕ) (long : length tx ≡ 23552)
    (sixteen : length s.connections ≡ 16) (a : Accepts image) (sound : records_sound image s.connections ≡ true) where
  module _ (clear : is_stored (check_of image s pdu (length payload)) ≡ true) where
    abbrev ready : Ready image
    ready = ready_from image a

    abbrev Way : ℕ → Sending → Type 0
    Way i x = Fine image ready s pdu payload (clear_roomy image s pdu payload clear ready) x i

    one_store : (i : ℕ) (x : Sending) → i < destinations image → Way i x → seen rx (store_of image s pdu payload x i)
        ≡ store_in image s pdu payload (seen rx x) i
    unfolding store_of store_in
    one_store i x h f = go (wanted_at image s pdu payload i) refl
      where
        go : (b : Bool) → wanted_at image s pdu payload i ≡ b
            → seen rx (cond b (append_of (destination_of image i) payload x) x) ≡ cond b (append_to (destination_of image i) payload (seen rx x)) (seen rx x)
        go true w = append_view rx payload (destination_of image i) x
            (room-held image ready s pdu payload (clear_roomy image s pdu payload clear ready) x i f h w)
        go false w = refl

    store_view : seen rx (store_all image s pdu payload tx) ≡ fold_from (store_in image s pdu payload) (destinations image) 0 (view_of s rx tx)
    unfolding store_all
    store_view =
        fold_alike (store_of image s pdu payload) (store_in image s pdu payload) (seen rx) Way (destinations image) 0 (sending s tx)
        (λ i x l u f. fine-step image ready s pdu payload (clear_roomy image s pdu payload clear ready) x i f (omega arith))
        (λ i x l u f. one_store i x (omega arith) f)
        (begin-fine image ready s pdu payload tx sixteen long (all_fit image a s sound) clear)

  -- THE WHOLE TRANSMIT
  pub transmit_view : view_of (transmit_of image s pdu payload tx).state rx (transmit_of image s pdu payload tx).memory
      ≡ transmit_in image pdu payload (view_of s rx tx)
  unfolding transmit_in transmit_of
  transmit_view =
      go (is_stored (check_of image s pdu (length payload))) refl
      ∙ ap (λ (t : State). cond (is_stored (check_of image t pdu (length payload)))
      (fold_from (store_in image t pdu payload) (destinations image) 0 (view_of s rx tx)) (view_of s rx tx))
      (sym (state_view s rx tx))
    where
      go : (b : Bool) → is_stored (check_of image s pdu (length payload)) ≡ b
          → view_of (cond b (store_all image s pdu payload tx) (sending s tx)).state rx (cond b (store_all image s pdu payload tx) (sending s tx)).memory
          ≡ cond b (fold_from (store_in image s pdu payload) (destinations image) 0 (view_of s rx tx)) (view_of s rx tx)
      go true e = store_view e
      go false e = refl
