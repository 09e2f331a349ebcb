-- ONE TAKE, over a stretch of receive memory: it lays the bytes that it adds behind those held, and no other.
use Prim.Native.Nat.{ℕ, ◌-◌, ◌≤◌, ◌<◌}
use mathlib.Core.Path.{◌≡◌, refl, sym, subst}
use mathlib.Core.Bool.{Bool, true, false}
use mathlib.Core.List.{List, [], ◌++◌}
use native.Mathlib.Omega.{arith}
use native.Mathlib.Decide.{dec_le}
use lib.ListN.{length, take, drop, length-append}
use lib.Seq.{length-take-le}
use Rattle.wire.specs.Lay.{lay}
use Rattle.wire.proofs.Lay.{lay-nothing}
use Rattle.reading.specs.Feed.{Cell, cell, transfer, header, payload, skip, Out, nothing, pdu, dropped, start, piece, Took, ready, take_b}
use Rattle.reading.proofs.Laws.{rest-whole, rest-short}
use Rattle.receive_part.specs.declared.Part.{Part}
use Rattle.receive_part.specs.declared.Part.TheVariants.{Header, Payload, Skip, Transfer}
use Rattle.receive_route.specs.Route.{lookup_of}
use Rattle.receive_stream.specs.Stream.{part_from, held_in, is_in_segment, id_of, take_outcome, wrote, took_of, taken_of, rx_after, Fit}
use Rattle.receive_stream.proofs.Takes.{payload_fit}
use Rattle.model.specs.World.{held_by}
use Rattle.theorem_writes.specs.Writes.{added_by}
use Rattle.theorem_writes.proofs.Laid.{lay-behind}

-- a stretch with n bytes laid at a place
abbrev pub Lays : List ℕ → List ℕ → ℕ → ℕ → Type 0
Lays st st' at n = (x : List ℕ) × ((length x ≡ n) × (st' ≡ lay st at x))

none_laid : (st : List ℕ) (at : ℕ) → Lays st st at 0
none_laid st at = ([], (refl, sym (lay-nothing st at)))

module _ (ids : ℕ → ℕ) (st : List ℕ) where
  -- what a take writes, with what it adds
  abbrev Wrote : Bool → ℕ → ℕ → Out → Cell → Type 0
  Wrote inside held read out to = Lays st (wrote inside out to st) held (added_by (take_outcome ids inside read out) held (held_by (part_from to)))

  held-long : (to : Cell) → length (held_in to) ≡ held_by (part_from to) - 0
  held-long (cell n (header v)) = refl
  held-long (cell n (payload r h)) = omega arith
  held-long (cell n skip) = refl
  held-long (transfer n r) = refl

  -- from a header, from bytes to skip or from a transfer: none is held
  fresh : (read : ℕ) (out : Out) (to : Cell) → Wrote true 0 read out to
  fresh read nothing to = (held_in to, (held-long to, refl))
  fresh read (pdu r p) to = none_laid st 0
  fresh read (dropped k i n) to = none_laid st 0
  fresh read (start r i n m) to = none_laid st 0
  fresh read (piece r p m) to = none_laid st 0

  -- from an unfinished payload: it ends here, or not
  module _ (held : ℕ) (le : held ≤ length st) (r : ℕ) (x : List ℕ) where
    behind : (n : ℕ) → length (take held st ++ x) ≡ n → Lays st (lay st 0 (take held st ++ x)) held (n - held)
    behind n e = (x, (omega (arith, length-append (take held st) x, length-take-le held st le), lay-behind st held x le))

    ended : (inside : Bool) (read : ℕ) → Wrote inside held read (pdu r (take held st ++ x)) ready
    ended true read = none_laid st held
    ended false read = behind (length (take held st ++ x)) refl

    goes_on : (inside : Bool) (read n : ℕ) → Wrote inside held read nothing (cell n (payload r (take held st ++ x)))
    goes_on inside read n = behind (length (take held st ++ x)) refl

-- THE TAKE
pub take_lays : (routes : List ℕ) (k switches : ℕ) (part : Part) (st bytes : List ℕ) → Fit routes part st
    → Lays st (rx_after routes k switches part st bytes) (held_by part)
    (added_by (taken_of routes k switches part st bytes).outcome (held_by part) (held_by (taken_of routes k switches part st bytes).part))
unfolding taken_of rx_after took_of
take_lays routes k switches (Header held value) st bytes fit =
    let t : Took = took_of routes k switches (Header held value) st bytes in
    fresh (id_of routes) st (length bytes - length t.rest) t.out t.to
take_lays routes k switches (Skip n) st bytes fit =
    let t : Took = took_of routes k switches (Skip n) st bytes in
    fresh (id_of routes) st (length bytes - length t.rest) t.out t.to
take_lays routes k switches (Transfer route n) st bytes fit =
    let t : Took = took_of routes k switches (Transfer route n) st bytes in
    fresh (id_of routes) st (length bytes - length t.rest) t.out t.to
take_lays routes k switches (Payload route n held) st bytes fit = go (dec_le (n - held) (length bytes))
  where
    there : (held < n) × (n ≤ length st)
    there = payload_fit routes (Payload route n held) st fit route n held refl

    c : Cell
    c = cell (n - held) (payload route (take held st))

    Made : Took → Type 0
    Made t = Wrote (id_of routes) st (is_in_segment c) held (length bytes - length t.rest) t.out t.to

    go : Dec (n - held ≤ length bytes) → Made (take_b (lookup_of routes k switches) c bytes)
    go (yes le) =
        subst Made (sym (rest-whole (lookup_of routes k switches) route (n - held) (take held st) bytes (omega (arith, there)) le))
        (ended (id_of routes) st held (omega (arith, there)) route (take (n - held) bytes) (is_in_segment c) (length bytes - length (drop (n - held) bytes)))
    go (no not) =
        subst Made (sym (rest-short (lookup_of routes k switches) route (n - held) (take held st) bytes (omega arith)))
        (goes_on (id_of routes) st held (omega (arith, there)) route bytes (is_in_segment c) (length bytes - 0) (n - held - length bytes))
