-- What framing answers, and the out buffer afterwards (section 6 of the rules).
use Rattle.std.specs.Prelude.{ℕ, ◌+◌, cond, List, ltb, length, Result, Ok, Err}
use Rattle.frame.specs.Frame.{frame}
use Rattle.wire.specs.Lay.{lay}
use Rattle.frame.specs.declared.FrameError.{FrameError}
use Rattle.frame.specs.declared.FrameError.TheVariants.{TooLong, NoRoom}

-- R6.2, the answer numbers: 0 done; 7 longer than 1,464; 9 an out buffer shorter than 8 + length
abbrev pub framed_number : Result Unit FrameError → ℕ
framed_number (Ok tt) = 0
framed_number (Err TooLong) = 7
framed_number (Err NoRoom) = 9

-- R6.2, 7 and then 9: a payload of n bytes, an out buffer of so many
unfoldable pub framing_of : ℕ → ℕ → Result Unit FrameError
framing_of n room = cond (ltb 1464 n) (Err TooLong) (cond (ltb room (8 + n)) (Err NoRoom) (Ok tt))

-- R6.3: header and payload at the buffer's front, and the bytes after them stay; in a refusal all stay
abbrev pub out_after : Result Unit FrameError → ℕ → List ℕ → List ℕ → List ℕ
out_after (Ok tt) id payload out = lay out 0 (frame id payload)
out_after (Err error) id payload out = out

unfoldable pub framed_out : ℕ → List ℕ → List ℕ → List ℕ
framed_out id payload out = out_after (framing_of (length payload) (length out)) id payload out
