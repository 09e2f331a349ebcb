-- THE HEADER RULE on a list of bytes: what stands at its front. A datagram is walked by it, and a stream is split by it.
use Rattle.std.specs.Prelude.{ℕ, ◌-◌, cond, List, ltb, eqb, length}
use Rattle.wire.specs.Be.{be}

-- no byte; 1..7 bytes left; a length beyond the end, with the header's id and length; a whole PDU, with them
pub data Head : Type 0 where
  ended : Head
  short : Head
  beyond : ℕ → ℕ → Head
  whole : ℕ → ℕ → Head

-- R5.1: id 4 bytes, length 4 bytes, payload; R7.9: fewer than 8 bytes, or a length beyond the end
unfoldable pub head_of : List ℕ → Head
head_of l =
    cond (eqb (length l) 0) ended
    (cond (ltb (length l) 8) short
    (cond (ltb (length l - 8) (be 4 l 4)) (beyond (be 4 l 0) (be 4 l 4)) (whole (be 4 l 0) (be 4 l 4))))
