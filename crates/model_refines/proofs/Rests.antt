-- A sound record holds of its stream what a reader can go on from, and nothing unless it is online.
use Prim.Native.Nat.{ℕ, ◌-◌, ◌^◌, ◌≤◌, ◌<◌}
use mathlib.Core.Path.{◌≡◌, refl, sym, ap₂, subst}
use mathlib.Core.Bool.{Bool, true, false, ◌&&◌, ◌||◌, false≢true}
use mathlib.Core.List.{List}
use native.Mathlib.Omega.{arith}
use lib.Dec.{eqb, leb}
use borrow.Author.Tests.{leb-true, ltb-true, eqb-true}
use Rattle.lists.proofs.Both.{and_left, and_right}
use Rattle.receive_part.specs.declared.Part.{Part}
use Rattle.receive_part.specs.declared.Part.TheVariants.{Header, Payload, Skip, Transfer}
use Rattle.receive_part.specs.Part.{shaped, empty_part}
use Rattle.connection.specs.declared.Config.{Config}
use Rattle.connection.specs.Connection.{is_online}
use Rattle.connection.specs.Sound.{Sound}
use Rattle.reading.specs.Feed.{cell, header, ready}
use Rattle.reading_lengths.specs.Listed.{Shaped}
use Rattle.receive_stream.specs.Stream.{cell_of}
use Rattle.model.specs.World.{Held}
use Rattle.model_runs.specs.Streams.{Rests}

shape-cell : (p : Part) (received : List ℕ) → shaped p ≡ true → Shaped (cell_of p received)
shape-cell (Header held value) received e =
    let h : held ≤ 7 = leb-true held 7 (and_left (leb held 7) _ e) in
    let v : value < 256 ^ held = ltb-true value (256 ^ held) (and_right (leb held 7) _ e) in
    let q : held ≡ 8 - (8 - held) = omega arith in
    (omega arith, omega arith, subst (λ (n : ℕ). value < 256 ^ n) q v)
shape-cell (Payload route n held) received e = let h : held < n = ltb-true held n e in omega arith
shape-cell (Skip bytes) received e = ltb-true 0 bytes e
shape-cell (Transfer route left) received e = ltb-true 0 left e

empty_cell : (p : Part) (received : List ℕ) → empty_part p ≡ true → cell_of p received ≡ ready
empty_cell (Header held value) received e =
    ap₂ (λ (n v : ℕ). cell (8 - n) (header v)) (eqb-true held 0 (and_left (eqb held 0) _ e)) (eqb-true value 0 (and_right (eqb held 0) _ e))
empty_cell (Payload route n held) received e = absurd (false≢true e)
empty_cell (Skip bytes) received e = absurd (false≢true e)
empty_cell (Transfer route left) received e = absurd (false≢true e)

empty-part : (e o t : Bool) → (e || (o && t)) ≡ true → o ≡ false → e ≡ true
empty-part true o t p q = refl
empty-part false true t p q = absurd (false≢true (sym q))
empty-part false false t p q = p

pub sound_rests : (g : Config) (h : Held) → Sound g h.connection → Rests h
sound_rests g h s =
    record {
      shape = shape-cell h.connection.part h.received s.receive.shape;
      quiet = λ off. empty_cell h.connection.part h.received
          (empty-part (empty_part h.connection.part) (is_online h.connection.mode) g.tcp s.receive.receiving off);
    }
