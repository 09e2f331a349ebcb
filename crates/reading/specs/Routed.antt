-- WHAT A READER'S ROUTES HAND OUT OF WHAT WAS FRAMED (R5.17).
use Rattle.std.specs.Prelude.{ℕ, ◌≡◌, true, false, List, [], ◌∷◌, length}
use Rattle.frame.specs.Frame.{Sent, Fits}
use Rattle.reading.specs.declared.Decision.TheVariants.{Accept, Transfer}
use Rattle.reading.specs.Feed.{Routes, Out, pdu, start, piece, Pdu, handed}

-- R5.17, routes for those ids, switched on and allowing those lengths: what was sent, and beside it the PDUs of the routes that accept it
pub data Routed (R : Routes) : List Sent → List Pdu → Type 0 where
  routed_none : Routed R [] []
  routed_one : {s : Sent} {r : ℕ} {ss : List Sent} {ps : List Pdu} → Fits s → R s.id (length s.body) ≡ Accept r → Routed R ss ps
      → Routed R (s ∷ ss) (handed r s.body ∷ ps)

-- R19.2 to R19.5, a whole payload p of id i as one transfer, in front of later outcomes: its start, and all its bytes in one piece with the
-- end mark; at length 0 the start alone, with the mark
abbrev pub as_transfer : ℕ → ℕ → List ℕ → List Out → List Out
as_transfer r i [] os = start r i 0 true ∷ os
as_transfer r i (b ∷ bs) os = start r i (length (b ∷ bs)) false ∷ piece r (b ∷ bs) true ∷ os

-- R5.17, R19.9, over a stream: what was sent, and beside it the outcomes, a PDU on an unmarked route and one transfer on a marked one
pub data Carried (R : Routes) : List Sent → List Out → Type 0 where
  carried_none : Carried R [] []
  carried_pdu : {s : Sent} {r : ℕ} {ss : List Sent} {os : List Out} → Fits s → R s.id (length s.body) ≡ Accept r → Carried R ss os
      → Carried R (s ∷ ss) (pdu r s.body ∷ os)
  carried_transfer : {s : Sent} {r : ℕ} {ss : List Sent} {os : List Out} → Fits s → R s.id (length s.body) ≡ Transfer r → Carried R ss os
      → Carried R (s ∷ ss) (as_transfer r s.id s.body os)
