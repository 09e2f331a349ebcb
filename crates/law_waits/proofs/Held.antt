-- After a check that refuses nothing, each connection's waiting bytes gain a frame for each of its switched-on destinations of
-- the PDU; a connection that has none keeps its record and its whole stretch.
use Prim.Native.Nat.{ℕ, zero, suc, ◌+◌, ◌<◌, ◌≤◌}
use mathlib.Core.Path.{◌≡◌, refl, sym, ap, subst, ◌∙◌}
use mathlib.Core.Bool.{Bool, true, false, cond, ◌&&◌}
use mathlib.Core.List.{List, [], ◌++◌, append_assoc, append-nil}
use native.Mathlib.Omega.{arith}
use native.Mathlib.Decide.{ℕ_discrete}
use lib.Dec.{eqb}
use lib.ListN.{length}
use borrow.Author.Tests.{eqb-true, eqb-false}
use Rattle.frame.specs.Frame.{frame}
use Rattle.lists.specs.Fold.{fold_from}
use Rattle.lists.proofs.Both.{impossible}
use Rattle.lists.proofs.Fold.{fold_goes}
use Rattle.table_rows.specs.Rows.{destination_of}
use Rattle.state.specs.declared.State.{State}
use Rattle.state.specs.State.{record_at}
use Rattle.state.specs.Memory.{stretch}
use Rattle.send.specs.Verdict.{is_stored}
use Rattle.send.specs.Send.{destinations, Sending, sending, append_of, wanted_at, store_of, store_all, check_of, Ready, Roomy}
use Rattle.send.proofs.Room.{clear_roomy}
use Rattle.send.proofs.Store.{wanted_apart}
use Rattle.law_waits.specs.Waits.{waits, goes_to, frames_from}
use Rattle.law_waits.proofs.Append.{RoomThere, append_other, append-sixteen, append-long, stretch_other, waits-own, waits_other, append-fits}

-- a call whose check refuses nothing
module _ (image : List ℕ) (ready : Ready image) (s : State) (pdu : ℕ) (payload : List ℕ) (roomy : Roomy image s pdu payload) where
  abbrev dest : ℕ → ℕ
  dest i = (destination_of image i).connection

  -- on the way, before row i
  pub record Fine (x : Sending) (i : ℕ) : Type 0 where
    pub sixteen : length x.state.connections ≡ 16
    pub long : length x.memory ≡ 23552
    pub fits : (k : ℕ) → (record_at x.state k).used ≤ 1472
    pub same : (j : ℕ) → i ≤ j → j < destinations image → wanted_at image s pdu payload j ≡ true
        → record_at x.state (destination_of image j).connection ≡ record_at s (destination_of image j).connection

  pub room-held : (x : Sending) (i : ℕ) → Fine x i → i < destinations image
      → wanted_at image s pdu payload i ≡ true → RoomThere (destination_of image i) payload x
  room-held x i f h w = record { sixteen = f.sixteen; long = f.long; small = ready.there i h; fits = rw (f.same i (omega arith) h w) (roomy i h w) }

  pub fine-step : (x : Sending) (i : ℕ) → Fine x i → i < destinations image → Fine (store_of image s pdu payload x i) (suc i)
  unfolding store_of
  fine-step x i f h = go (wanted_at image s pdu payload i) refl
    where
      go : (b : Bool) → wanted_at image s pdu payload i ≡ b → Fine (cond b (append_of (destination_of image i) payload x) x) (suc i)
      go false w = record { sixteen = f.sixteen; long = f.long; fits = f.fits; same = λ j l u q. f.same j (omega arith) u q }
      go true w =
          record {
            sixteen = append-sixteen (destination_of image i) payload x f.sixteen;
            long = append-long (destination_of image i) payload x ∙ f.long;
            fits = λ k. append-fits (destination_of image i) payload x (room-held x i f h w) k (f.fits k) (ℕ_discrete (dest i) k);
            same = λ j l u q. append_other (destination_of image i) payload x (dest j)
                (λ z. wanted_apart image s pdu payload ready i j (omega arith) u w q (sym z)) ∙ f.same j (omega arith) u q;
          }

  module _ (k : ℕ) where
    -- a row in its three ways: it appends to connection k, to another, or nothing
    row_cases : (x : Sending) (i : ℕ) (P : Bool → Sending → Type 0)
        → (wanted_at image s pdu payload i ≡ true → dest i ≡ k → P true (append_of (destination_of image i) payload x))
        → (wanted_at image s pdu payload i ≡ true → (dest i ≡ k → ⊥) → P false (append_of (destination_of image i) payload x)) → P false x
        → P (goes_to image s pdu payload k i) (store_of image s pdu payload x i)
    unfolding store_of
    row_cases x i P own other none = go (wanted_at image s pdu payload i) refl (eqb (dest i) k) refl
      where
        go : (b : Bool) → wanted_at image s pdu payload i ≡ b → (o : Bool) → eqb (dest i) k ≡ o
            → P (b && o) (cond b (append_of (destination_of image i) payload x) x)
        go false w o e = none
        go true w true e = own w (eqb-true _ _ e)
        go true w false e = other w (eqb-false _ _ e)

    waits-step : (x : Sending) (i : ℕ) → Fine x i → i < destinations image
        → waits (store_of image s pdu payload x i).state (store_of image s pdu payload x i).memory k
        ≡ waits x.state x.memory k ++ cond (goes_to image s pdu payload k i) (frame (destination_of image i).id payload) []
    waits-step x i f h =
        row_cases x i (λ (b : Bool) (y : Sending). waits y.state y.memory k
        ≡ waits x.state x.memory k ++ cond b (frame (destination_of image i).id payload) [])
        (λ w e.
        subst (λ (m : ℕ). waits (append_of (destination_of image i) payload x).state (append_of (destination_of image i) payload x).memory m
        ≡ waits x.state x.memory m ++ frame (destination_of image i).id payload)
        e (waits-own (destination_of image i) payload x (room-held x i f h w)))
        (λ w ne. waits_other (destination_of image i) payload x (room-held x i f h w) k (f.fits k) ne ∙ sym (append-nil (waits x.state x.memory k)))
        (sym (append-nil (waits x.state x.memory k)))

    -- a row that does not append to it keeps its whole stretch and its record
    abbrev Keeps : Sending → Sending → Type 0
    Keeps x y = (stretch 1472 k y.memory ≡ stretch 1472 k x.memory) × (record_at y.state k ≡ record_at x.state k)

    keeps_step : (x : Sending) (i : ℕ) → Fine x i → i < destinations image → goes_to image s pdu payload k i ≡ false
        → Keeps x (store_of image s pdu payload x i)
    keeps_step x i f h =
        row_cases x i (λ (b : Bool) (y : Sending). b ≡ false → Keeps x y) (λ w e g. impossible (sym g))
        (λ w ne g. (
          stretch_other (destination_of image i) payload x (room-held x i f h w) k (λ z. ne (sym z)),
          append_other (destination_of image i) payload x k ne,
        )) (λ g. (refl, refl))

    -- all rows from i on
    waits_fold : (n i : ℕ) (x : Sending) → i + n ≤ destinations image → Fine x i
        → waits (fold_from (store_of image s pdu payload) n i x).state (fold_from (store_of image s pdu payload) n i x).memory k
        ≡ waits x.state x.memory k ++ frames_from image s pdu payload k n i
    unfolding fold_from frames_from
    waits_fold zero i x h f = sym (append-nil (waits x.state x.memory k))
    waits_fold (suc n) i x h f =
        waits_fold n (suc i) (store_of image s pdu payload x i) (omega arith) (fine-step x i f (omega arith))
        ∙ ap (λ (l : List ℕ). l ++ frames_from image s pdu payload k n (suc i)) (waits-step x i f (omega arith))
        ∙ append_assoc (waits x.state x.memory k) _ _

    keeps_fold : (n : ℕ) (x : Sending) → n ≤ destinations image → Fine x 0 → ((i : ℕ) → i < destinations image → goes_to image s pdu payload k i ≡ false)
        → Keeps x (fold_from (store_of image s pdu payload) n 0 x)
    keeps_fold n x h f none =
        (fold_goes (store_of image s pdu payload) (λ (i : ℕ) (y : Sending). Fine y i × Keeps x y) n 0 x
        (λ i y l u p.
        let q = keeps_step y i p.0 (omega arith) (none i (omega arith)) in
        (fine-step y i p.0 (omega arith), (q.0 ∙ p.1.0, q.1 ∙ p.1.1)))
        (f, (refl, refl))).1

-- ---- the laws: of a call that the check passed, on a state whose send bytes are within their stretches
module _ (image : List ℕ) (ready : Ready image) (s : State) (pdu : ℕ) (payload tx : List ℕ) (sixteen : length s.connections ≡ 16) (long : length tx ≡ 23552)
    (fits : (k : ℕ) → (record_at s k).used ≤ 1472) (clear : is_stored (check_of image s pdu (length payload)) ≡ true) where
  pub begin-fine : Fine image ready s pdu payload (clear_roomy image s pdu payload clear ready) (sending s tx) 0
  begin-fine = record { sixteen = sixteen; long = long; fits = fits; same = λ j l u q. refl }

  module _ (k : ℕ) where
    -- what waits: the old bytes, and a frame for each of the connection's destinations
    pub waits-after : waits (store_all image s pdu payload tx).state (store_all image s pdu payload tx).memory k
        ≡ waits s tx k ++ frames_from image s pdu payload k (destinations image) 0
    unfolding store_all
    waits-after = waits_fold image ready s pdu payload (clear_roomy image s pdu payload clear ready) k
        (destinations image) 0 (sending s tx) (omega arith) begin-fine

    -- a connection with none of them keeps its whole stretch and its record
    pub others_stay : ((i : ℕ) → i < destinations image → goes_to image s pdu payload k i ≡ false)
        → (stretch 1472 k (store_all image s pdu payload tx).memory ≡ stretch 1472 k tx)
        × (record_at (store_all image s pdu payload tx).state k ≡ record_at s k)
    unfolding store_all
    others_stay none = keeps_fold image ready s pdu payload (clear_roomy image s pdu payload clear ready) k
        (destinations image) (sending s tx) (omega arith) begin-fine none
