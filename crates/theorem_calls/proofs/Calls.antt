-- EACH ANSWER OF FRAMING, OF THE FRESH STATE AND OF THE C WALK IS GIVEN EXACTLY WHEN ITS RULE SAYS SO.
use Rattle.std.proofs.Common.{Result, Ok, Err}
use Prim.Native.Nat.{ℕ, ◌+◌, ◌<◌, ◌≤◌}
use mathlib.Core.Path.{◌≡◌, refl, ap, subst}
use mathlib.Core.Logic.{◌↔◌}
use mathlib.Core.Bool.{Bool, true, false, cond}
use mathlib.Core.List.{List}
use lib.Dec.{eqb, leb, ltb}
use lib.ListN.{length}
use borrow.Author.Tests.{eqb-true, eqb-false, eq-eqb, ne_eqb, ltb-true, ltb-false, leb-true, leb-false, lt-ltb, le-ltb, le-leb, lt-leb}
use Rattle.table_layout.specs.Layout.{rows_of, body_of}
use Rattle.table_layout.specs.declared.Kind.TheVariants.{Connection, Route}
use Rattle.table_rows.specs.Rules.{group_tcp, tcp_in}
use Rattle.table.specs.declared.BadTable.TheVariants.{At}
use Rattle.table.specs.Table.{check_table}
use Rattle.entry_fresh.specs.declared.Made.{Made}
use Rattle.entry_fresh.specs.Make.{made_of, make_of}
use Rattle.frame.specs.declared.FrameError.TheVariants.{TooLong, NoRoom}
use Rattle.frame.specs.Framing.{framing_of}
use Rattle.receive_datagram.specs.Datagram.{walked_of}
use Rattle.receive_datagram.specs.declared.Walked.{Walked}
use Rattle.soad_walk.specs.declared.WalkRefusal.{WalkRefusal}
use Rattle.soad_walk.specs.declared.WalkRefusal.TheVariants.{BadImage, Missing, Denied}
use Rattle.soad_walk.specs.TableWalk.{accepted_walk, after_check, table_walk_of, walk_number}
use Rattle.theorem_calls.specs.Image.{MeetsAll, TableSays}
use Rattle.theorem_calls.specs.Calls.{FramingSays, too_long, no_room, frames_it, MakeSays, made_fresh, made_empty}
use Rattle.theorem_calls.specs.Calls.{protocol_number, WalkSays, bad_image, not_there, tcp, beyond, walks_on}
use Rattle.theorem_calls.specs.Calls.{WalkNumber, image_gives_1, connection_gives_2, tcp_gives_3, place_gives_3, step_gives_0}
use Rattle.theorem_calls.proofs.Image.{table-answer, table-given}
use Rattle.table.specs.declared.BadTable.{BadTable}
use Rattle.frame.specs.declared.FrameError.{FrameError}

-- FRAMING
module _ (n room : ℕ) where
  framed_told : FramingSays n room (framing_of n room)
  unfolding framing_of
  framed_told = long (ltb 1464 n) refl
    where
      roomy : n ≤ 1464 → (b : Bool) → ltb room (8 + n) ≡ b → FramingSays n room (cond b (Err NoRoom) (Ok tt))
      roomy h true e = no_room h (ltb-true room (8 + n) e)
      roomy h false e = frames_it h (ltb-false room (8 + n) e)

      long : (b : Bool) → ltb 1464 n ≡ b → FramingSays n room (cond b (Err TooLong) (cond (ltb room (8 + n)) (Err NoRoom) (Ok tt)))
      long true e = too_long (ltb-true 1464 n e)
      long false e = roomy (ltb-false 1464 n e) (ltb room (8 + n)) refl

  framed-given : (x : Result Unit FrameError) → FramingSays n room x → framing_of n room ≡ x
  unfolding framing_of
  framed-given _ (too_long h) = rw (lt-ltb 1464 n h)
  framed-given _ (no_room h g) = rw (le-ltb 1464 n h, lt-ltb room (8 + n) g)
  framed-given _ (frames_it h g) = rw (le-ltb 1464 n h, le-ltb room (8 + n) g)

  pub framing_answer : (x : Result Unit FrameError) → (framing_of n room ≡ x) ↔ FramingSays n room x
  framing_answer x = (λ (e : framing_of n room ≡ x). subst (FramingSays n room) e framed_told, framed-given x)

-- THE FRESH STATE
module _ (image : List ℕ) where
  made_told : MakeSays image (make_of image)
  unfolding make_of made_of
  made_told = go (check_table image) ((table-answer image (check_table image)).0 refl)
    where
      go : (x : Result Unit BadTable) → TableSays image x → MakeSays image (made_of x image)
      go (Ok tt) h = made_fresh h
      go (Err (At p)) h = made_empty p h

  made_given : (x : Made) → MakeSays image x → make_of image ≡ x
  unfolding make_of made_of
  made_given _ (made_fresh h) = rw (table-given image (Ok tt) h)
  made_given _ (made_empty p h) = rw (table-given image (Err (At p)) h)

  pub make_answer : (x : Made) → (make_of image ≡ x) ↔ MakeSays image x
  make_answer x = (λ (e : make_of image ≡ x). subst (MakeSays image) e made_told, made_given x)

-- THE C WALK
module _ (image : List ℕ) (connection switches : ℕ) (datagram : List ℕ) (place : ℕ) where
  abbrev Says : Result Walked WalkRefusal → Type 0
  Says = WalkSays image connection switches datagram place

  abbrev walk : Result Walked WalkRefusal
  walk = table_walk_of image connection switches datagram place

  abbrev its : ℕ
  its = protocol_number image connection switches datagram place

  abbrev on : Result Walked WalkRefusal
  on = Ok (walked_of datagram place (body_of image Route) connection switches)

  past : MeetsAll image → Says (accepted_walk image connection switches datagram place)
  unfolding accepted_walk group_tcp tcp_in
  past all = there (leb (rows_of image Connection) connection) refl
    where
      within : connection < rows_of image Connection → (its ≡ 2 → ⊥) → (b : Bool) → ltb (length datagram) place ≡ b → Says (cond b (Err Denied) on)
      within h u true e = beyond all h (ltb-true (length datagram) place e)
      within h u false e = walks_on all h u (ltb-false (length datagram) place e)

      udp : connection < rows_of image Connection → (b : Bool) → eqb its 2 ≡ b → Says (cond b (Err Denied) (cond (ltb (length datagram) place) (Err Denied) on))
      udp h true e = tcp all h (eqb-true its 2 e)
      udp h false e = within h (eqb-false its 2 e) (ltb (length datagram) place) refl

      there : (b : Bool) → leb (rows_of image Connection) connection ≡ b
          → Says (cond b (Err Missing) (cond (eqb its 2) (Err Denied) (cond (ltb (length datagram) place) (Err Denied) on)))
      there true e = not_there all (leb-true (rows_of image Connection) connection e)
      there false e = udp (leb-false (rows_of image Connection) connection e) (eqb its 2) refl

  walk_told : Says walk
  unfolding table_walk_of
  walk_told = go (check_table image) ((table-answer image (check_table image)).0 refl)
    where
      go : (x : Result Unit BadTable) → TableSays image x → Says (after_check x (accepted_walk image connection switches datagram place))
      go (Ok tt) all = past all
      go (Err (At p)) fault = bad_image (λ all. fault.bad (all fault.spot fault.there))

  walk-given : (x : Result Walked WalkRefusal) → Says x → walk ≡ x
  unfolding table_walk_of accepted_walk group_tcp tcp_in
  walk-given _ (bad_image h) = go (check_table image) ((table-answer image (check_table image)).0 refl)
    where
      go : (x : Result Unit BadTable) → TableSays image x → after_check x (accepted_walk image connection switches datagram place) ≡ Err BadImage
      go (Ok tt) all = absurd (h all)
      go (Err e) fault = refl
  walk-given _ (not_there all h) = rw (table-given image (Ok tt) all, le-leb (rows_of image Connection) connection h)
  walk-given _ (tcp all h e) = rw (table-given image (Ok tt) all, lt-leb (rows_of image Connection) connection h, eq-eqb its 2 e)
  walk-given _ (beyond all h l) =
      rw (table-given image (Ok tt) all, lt-leb (rows_of image Connection) connection h, lt-ltb (length datagram) place l) (either (eqb its 2) (Err Denied))
    where
      either : (b : Bool) (x : Result Walked WalkRefusal) → cond b x x ≡ x
      either true x = refl
      either false x = refl
  walk-given _ (walks_on all h u l) =
      rw (table-given image (Ok tt) all, lt-leb (rows_of image Connection) connection h, ne_eqb its 2 u, le-ltb (length datagram) place l)

  pub walk-answer : (x : Result Walked WalkRefusal)
      → (table_walk_of image connection switches datagram place ≡ x) ↔ WalkSays image connection switches datagram place x
  walk-answer x = (λ (e : walk ≡ x). subst Says e walk_told, walk-given x)

  -- .. and each number exactly then
  number_told : (x : Result Walked WalkRefusal) → Says x → WalkNumber image connection switches datagram place (walk_number x)
  number_told _ (bad_image h) = image_gives_1 h
  number_told _ (not_there all h) = connection_gives_2 all h
  number_told _ (tcp all h e) = tcp_gives_3 all h e
  number_told _ (beyond all h l) = place_gives_3 all h l
  number_told _ (walks_on all h u l) = step_gives_0 all h u l

  number-given : (n : ℕ) → WalkNumber image connection switches datagram place n → walk_number walk ≡ n
  number-given _ (image_gives_1 h) = ap walk_number (walk-given _ (bad_image h))
  number-given _ (connection_gives_2 all h) = ap walk_number (walk-given _ (not_there all h))
  number-given _ (tcp_gives_3 all h e) = ap walk_number (walk-given _ (tcp all h e))
  number-given _ (place_gives_3 all h l) = ap walk_number (walk-given _ (beyond all h l))
  number-given _ (step_gives_0 all h u l) = ap walk_number (walk-given _ (walks_on all h u l))

  pub walk_number_answer : (n : ℕ)
      → (walk_number (table_walk_of image connection switches datagram place) ≡ n) ↔ WalkNumber image connection switches datagram place n
  walk_number_answer n =
      (λ (e : walk_number walk ≡ n). subst (WalkNumber image connection switches datagram place) e (number_told walk walk_told), number-given n)
