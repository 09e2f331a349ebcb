-- CALLS OF THE FRAMING FUNCTION one after the other (R5.17, R6.3), each with an id, a payload and an out buffer, and the bytes that they write.
use Rattle.std.specs.Prelude.{ℕ, ◌+◌, ◌≡◌, List, [], ◌∷◌, ◌++◌, length, take, Ok}
use Rattle.frame.specs.Frame.{Sent}
use Rattle.frame.specs.Framing.{framing_of, framed_out}

pub record FramingCall : Type 0 where
  pub id : ℕ
  pub payload : List ℕ
  pub out : List ℕ

-- the PDU of a call
abbrev pub framed_pdu : FramingCall → Sent
framed_pdu c = record { id = c.id; body = c.payload }

-- the front of the out buffer afterwards: as many bytes as header and payload have
abbrev pub framed_front : FramingCall → List ℕ
framed_front c = take (8 + length c.payload) (framed_out c.id c.payload c.out)

-- the fronts of calls, one after the other
unfoldable pub framed_fronts : List FramingCall → List ℕ
framed_fronts [] = []
framed_fronts (c ∷ cs) = framed_front c ++ framed_fronts cs

-- each call is answered done
abbrev pub AllDone : List FramingCall → Type 0
AllDone [] = Unit {0}
AllDone (c ∷ cs) = (framing_of (length c.payload) (length c.out) ≡ Ok tt) × AllDone cs
