-- What the gate shows to a take and to a walk.
use Rattle.std.proofs.Common.{Ok}
use Prim.Native.Nat.{ℕ, ◌*◌, ◌/◌, ◌<◌, ◌≤◌}
use mathlib.Core.Path.{◌≡◌, refl, sym, subst}
use mathlib.Core.Bool.{Bool, true, ◌&&◌}
use mathlib.Core.List.{List, []}
use native.Mathlib.Omega.{arith}
use native.Mathlib.Decide.{dec_lt}
use borrow.Author.Tests.{leb-true}
use lib.Dec.{eqb, leb, ltb}
use lib.ListN.{length, drop, length-drop, get_or-eq_default}
use lib.Seq.{length-take-le}
use Rattle.wire.specs.Be.{be}
use Rattle.lists.proofs.Both.{and_left, and_right}
use Rattle.table_layout.specs.Layout.{rows_of, body_of}
use Rattle.table_layout.specs.declared.Kind.TheVariants.{Connection as Connections, Route as Routes}
use Rattle.table_layout.proofs.Parts.{body-rows, row_none}
use Rattle.table_rows.specs.Rows.{route_row, route_in}
use Rattle.table.specs.Table.{check_table}
use Rattle.table.specs.Accepts.{Accepts}
use Rattle.table.proofs.Facts.{accepted_facts}
use Rattle.receive_part.specs.declared.Part.{Part}
use Rattle.receive_part.specs.declared.Part.TheVariants.{Header, Payload, Skip, Transfer}
use Rattle.receive_part.specs.Part.{shaped}
use Rattle.connection.specs.declared.Connection.{Connection}
use Rattle.connection.specs.Connection.{zero_record}
use Rattle.state.specs.declared.State.{State}
use Rattle.state.specs.State.{record_at}
use Rattle.receive_stream.specs.Stream.{length_of, Limits}
use Rattle.gate.specs.Lent.{Lent, Loan, sizes}
use Rattle.gate.specs.Sound.{routed, sound_at}
use Rattle.gate.specs.Gate.{Passed}
use Rattle.gate.proofs.Pass.{passed-laid}
use Rattle.gate.proofs.Records.{row-sound, row-routed, record-at}
use Rattle.state.specs.Memory.{stretch}
use Rattle.entry_receive.specs.Segment.{Takes}

-- an accepted table has sixteen connections at most, and no route of more than 1,464 bytes: a row that is not there allows none
module _ (image : List ℕ) (ok : check_table image ≡ Ok tt) where
  facts : Accepts image
  facts = accepted_facts image ok

  pub below_sixteen : (n : ℕ) → n < rows_of image Connections → n < 16
  below_sixteen n h = omega (arith, facts.most Connections)

  none_allows : (route_row []).longest ≤ 1464
  unfolding route_row be
  none_allows = omega arith

  pub limits : Limits (body_of image Routes)
  limits i = go (dec_lt i (rows_of image Routes))
    where
      go : Dec (i < rows_of image Routes) → (route_in (body_of image Routes) i).longest ≤ 1464
      go (yes h) = facts.longest i h
      go (no h) =
          let e : length (body_of image Routes) / 16 ≡ rows_of image Routes = body-rows image facts.laid Routes in
          subst (λ (row : List ℕ). (route_row row).longest ≤ 1464) (row_none 16 (body_of image Routes) i (omega arith)) none_allows

-- a part whose route allows the length
routed-short : (routes : List ℕ) (n : ℕ) (part : Part) → Limits routes → routed routes n part ≡ true → length_of part ≤ 1464
routed-short routes n (Header held value) most p = omega arith
routed-short routes n (Payload route len held) most p =
    let row : Bool = ltb route (length routes / 16) && eqb (route_in routes route).connection n in
    let h : len ≤ (route_in routes route).longest =
    leb-true _ _ (and_right row (leb len (route_in routes route).longest) (and_left (row && leb len (route_in routes route).longest) _ p)) in
    omega (arith, most route)
routed-short routes n (Skip bytes) most p = omega arith
routed-short routes n (Transfer route left) most p = omega arith

-- the part of a sound record
pub record SoundPart (part : Part) : Type 0 where
  pub shape : shaped part ≡ true
  pub fits : length_of part ≤ 1464

module _ (l : Lent) (passed : Passed l) (n : ℕ) (there : n < rows_of l.image Connections) where
  abbrev image : List ℕ
  image = l.image

  abbrev s : State
  s = l.state

  pub part-whole : SoundPart (record_at s n).part
  part-whole = go (dec_lt n (length s.connections))
    where
      go : Dec (n < length s.connections) → SoundPart (record_at s n).part
      go (yes h) =
          let one : sound_at image n (record_at s n) ≡ true = record-at image s.connections n passed.sound h in
          record {
            shape = (row-sound image n (record_at s n) one there).receive.shape;
            fits = routed-short (body_of image Routes) n (record_at s n).part (limits image passed.table) (row-routed image n (record_at s n) one there);
          }
      go (no h) =
          subst (λ (c : Connection). SoundPart c.part) (sym (get_or-eq_default s.connections zero_record (omega arith)))
          (record { shape = refl; fits = omega arith })

-- a connection's stretch of receive memory
pub stretch-length : (n : ℕ) (rx : List ℕ) → n < 16 → length rx ≡ 23424 → length (stretch 1464 n rx) ≡ 1464
stretch-length n rx h e = length-take-le 1464 (drop (n * 1464) rx) (omega (arith, length-drop (n * 1464) rx))

-- SO A TAKE MAY BE MADE
pub passed-takes : (l : Loan) (n : ℕ) → Passed (sizes l) → n < rows_of l.image Connections → Takes l.image (record_at l.state n) l.rx n
passed-takes l n passed there =
    let w : SoundPart (record_at l.state n).part = part-whole (sizes l) passed n there in
    let h : n < 16 = below_sixteen l.image passed.table n there in
    record {
      laid = passed-laid (sizes l) passed;
      small = h;
      room = passed.receive;
      fit = record { shape = w.shape; fits = w.fits; room = stretch-length n l.rx h passed.receive; limits = limits l.image passed.table };
    }
