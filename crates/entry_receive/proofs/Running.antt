-- A RUNNING TRANSFER, over the segment entry: a start begins it, its end mark ends it, and nothing else does; and each piece stands in the
-- segment at its place, with one byte at least.
use Prim.Native.Nat.{ℕ, ◌+◌, ◌≤◌, ◌<◌}
use mathlib.Core.Path.{◌≡◌, refl, ap, ◌∙◌}
use mathlib.Core.Bool.{Bool, true, false, cond}
use mathlib.Core.List.{List}
use native.Mathlib.Omega.{arith}
use borrow.Author.Tests.{le-leb}
use lib.ListN.{length, get_or, take, drop}
use Rattle.wire.specs.Place.{behind}
use Rattle.table_layout.specs.Layout.{body_of, part_at}
use Rattle.table_layout.specs.declared.Kind.TheVariants.{Route as Routes}
use Rattle.table_layout.proofs.Parts.{part-fits}
use Rattle.connection.specs.declared.Connection.{Connection}
use Rattle.receive_part.specs.Part.{transferring}
use Rattle.state.specs.State.{record_at}
use Rattle.state.specs.Memory.{stretch}
use Rattle.state.specs.Fresh.{config_of}
use Rattle.receive_stream.specs.declared.Outcome.TheVariants.{Piece}
use Rattle.receive_stream.specs.Stream.{runs_after, PieceStands}
use Rattle.receive_stream.proofs.Runs.{leaves-running, leaves-piece}
use Rattle.gate.specs.Lent.{Loan, sizes}
use Rattle.entry_receive.specs.Answer.{is_done}
use Rattle.entry_receive.specs.Segment.{take_on, none_taken, segment_answer, segment_of, payload_of, payload_stands}
use Rattle.entry_receive.proofs.Answers.{Clear, done_clear}
use Rattle.entry_receive.proofs.Past.{passed-takes}
use Rattle.entry_receive.proofs.Keeps.{record-after}

module _ (l : Loan) (k : ℕ) (segment : List ℕ) where
  -- a transfer runs after the entry, whatever it answers, as its outcome says
  pub segment-running : ((i : ℕ) → get_or segment i 0 < 256)
      → transferring (record_at (segment_of l k segment).state k).part ≡ runs_after (transferring (record_at l.state k).part) (segment_of l k segment).outcome
  unfolding segment_of take_on
  segment-running bytes = go (is_done (segment_answer (sizes l) k)) refl
    where
      go : (b : Bool) → is_done (segment_answer (sizes l) k) ≡ b
          → transferring (record_at (cond b (take_on l.image l.state l.rx k segment) (none_taken l.state (segment_answer (sizes l) k))).state k).part
          ≡ runs_after (transferring (record_at l.state k).part)
          (cond b (take_on l.image l.state l.rx k segment) (none_taken l.state (segment_answer (sizes l) k))).outcome
      go true e =
          let c : Clear (sizes l) k (config_of l.image k).tcp = done_clear (sizes l) k (config_of l.image k).tcp e in
          ap (λ (d : Connection). transferring d.part) (record-after l k segment bytes c)
          ∙ leaves-running (body_of l.image Routes) k (record_at l.state k).switches (record_at l.state k).part (stretch 1464 k l.rx) segment
          (passed-takes l k c.passed c.there).fit
      go false e = refl

  -- EACH PIECE STANDS IN THE SEGMENT AT ITS PLACE, the front of what the take has read, and has one byte at least
  pub segment-piece : (r i at n : ℕ) (m : Bool) → (segment_of l k segment).outcome ≡ Piece r i at n m → PieceStands segment (segment_of l k segment).read at n
  unfolding segment_of take_on
  segment-piece r i at n m = go (is_done (segment_answer (sizes l) k))
    where
      go : (b : Bool) → (cond b (take_on l.image l.state l.rx k segment) (none_taken l.state (segment_answer (sizes l) k))).outcome ≡ Piece r i at n m
          → PieceStands segment (cond b (take_on l.image l.state l.rx k segment) (none_taken l.state (segment_answer (sizes l) k))).read at n
      go true e = leaves-piece (body_of l.image Routes) k (record_at l.state k).switches
          (record_at l.state k).part (stretch 1464 k l.rx) segment r i at n m e
      go false e = let z : ◌≡◌ {A = ℕ} 0 1 = cc in absurd (omega arith)

-- so what `segment_payload` returns of it are the segment's first bytes, and it returns them where they stand
pub piece_bytes : (segment rx : List ℕ) (k r i read at n : ℕ) (m : Bool)
    → PieceStands segment read at n → payload_of segment rx k (Piece r i at n m) ≡ take n segment
unfolding payload_of
piece_bytes segment rx k r i read at n m s = part-fits segment at n (omega (arith, s.within, s.front)) ∙ ap (λ (a : ℕ). take n (drop a segment)) s.front

pub piece-place : (p : ℕ × ℕ) (segment : List ℕ) (q : ℕ × ℕ) (rx : List ℕ) (k r i read at n : ℕ) (m : Bool) → PieceStands segment read at n
    → payload_stands p segment q rx k (Piece r i at n m) ≡ behind p at
unfolding payload_stands part_at
piece-place p segment q rx k r i read at n m s =
    let h : at + n ≤ length segment = omega (arith, s.within, s.front) in
    rw (le-leb (at + n) (length segment) h)
