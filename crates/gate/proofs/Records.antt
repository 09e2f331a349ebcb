-- The records of a sound state, one by one: from the test and back.
use Prim.Native.Nat.{ℕ, ◌+◌, ◌/◌, ◌<◌, ◌≤◌}
use mathlib.Core.Path.{◌≡◌, refl, sym, ap, ◌∙◌}
use mathlib.Core.Bool.{Bool, true, false, ◌&&◌}
use mathlib.Core.List.{List}
use native.Mathlib.Omega.{arith}
use lib.ListN.{length, set, get_or}
use borrow.Author.Tests.{lt-ltb, le-ltb}
use Rattle.table_layout.specs.Layout.{rows_of, body_of, Laid}
use Rattle.table_layout.specs.declared.Kind.TheVariants.{Connection as Connections, Group as Groups, Route as Routes}
use Rattle.table_layout.proofs.Parts.{body-rows}
use Rattle.connection.specs.declared.Connection.{Connection}
use Rattle.connection.specs.Connection.{zero_record}
use Rattle.connection.specs.Sound.{watched, sound_of, zero_of, Sound}
use Rattle.connection.proofs.Rules.{sound_from, sound-to, zero_is, zero-zero}
use Rattle.lists.proofs.Both.{and_left, and_right, and_both, impossible}
use Rattle.lists.proofs.Each.{all-at, all_set, all-turn, all-all}
use Rattle.table_rows.specs.Rows.{connection_row}
use Rattle.table_rows.specs.Rules.{size_in}
use Rattle.state.specs.Fresh.{config_in, config_of}
use Rattle.lists.specs.Each.{all_from, all_to}
use Rattle.gate.specs.Sound.{routed, sound_at, records_sound}
use Rattle.gate.specs.Inner.{rules_in, row_sound, sound_in, idle, idle_sound, quiet_sound}
use Rattle.gate.proofs.Idle.{idle-sound}

module _ (image : List ℕ) (n : ℕ) (c : Connection) where
  -- the record of a row
  pub row-sound : sound_at image n c ≡ true → n < rows_of image Connections → Sound (config_of image n) c
  unfolding sound_at
  row-sound p h =
      let q : (sound_of (config_of image n) c && routed (body_of image Routes) n c.part) ≡ true = rw (lt-ltb _ _ h) at p in
      sound_from (config_of image n) c (and_left (sound_of (config_of image n) c) _ q)

  pub row-routed : sound_at image n c ≡ true → n < rows_of image Connections → routed (body_of image Routes) n c.part ≡ true
  unfolding sound_at
  row-routed p h =
      let q : (sound_of (config_of image n) c && routed (body_of image Routes) n c.part) ≡ true = rw (lt-ltb _ _ h) at p in
      and_right (sound_of (config_of image n) c) _ q

  pub sound-row : n < rows_of image Connections → Sound (config_of image n) c → routed (body_of image Routes) n c.part ≡ true → sound_at image n c ≡ true
  unfolding sound_at
  sound-row h s r = rw (lt-ltb _ _ h) (and_both (sound-to (config_of image n) c s) r)

  -- a record past the rows
  pub past-zero : sound_at image n c ≡ true → rows_of image Connections ≤ n → c ≡ zero_record
  unfolding sound_at
  past-zero p h =
      let q : zero_of c ≡ true = rw (le-ltb _ _ h) at p in
      zero_is c q

pub zero-past : (image : List ℕ) (n : ℕ) → rows_of image Connections ≤ n → sound_at image n zero_record ≡ true
unfolding sound_at
zero-past image n h = rw (le-ltb _ _ h) zero-zero

-- each record of a sound state is sound, and may be replaced by one that is
pub record-at : (image : List ℕ) (cs : List Connection) (n : ℕ) → records_sound image cs ≡ true → n < length cs → sound_at image n (get_or cs n zero_record)
    ≡ true
unfolding records_sound
record-at image cs n p h =
    let z : 0 + n ≡ n = omega arith in
    rw z at (all-at (sound_at image) 0 n cs zero_record p h)

pub record_set : (image : List ℕ) (cs : List Connection) (n : ℕ) (c : Connection)
    → records_sound image cs ≡ true → sound_at image n c ≡ true → records_sound image (set cs n c) ≡ true
unfolding records_sound
record_set image cs n c p q =
    let z : n ≡ 0 + n = omega arith in
    all_set (sound_at image) 0 n cs c p (ap (λ (k : ℕ). sound_at image k c) (let y : 0 + n ≡ n = omega arith in y) ∙ q)

-- the records by the number of rows and the bodies, and by the image
all_in : (image : List ℕ) (cs : List Connection)
    → all_from (sound_in (rows_of image Connections) (body_of image Connections) (body_of image Groups) (body_of image Routes)) 0 cs ≡ records_sound image cs
unfolding records_sound sound_at config_of
all_in image cs = refl

pub records-in : (image : List ℕ) → Laid image → (cs : List Connection) (connections groups routes : List ℕ)
    → connections ≡ body_of image Connections → groups ≡ body_of image Groups → routes ≡ body_of image Routes
    → all_from (sound_in (length connections / 16) connections groups routes) 0 cs ≡ records_sound image cs
records-in image l cs connections groups routes a b d = rw (a, b, d, body-rows image l Connections) (all_in image cs)

-- the rules ask no more than that
pub rules_enough : (connections groups : List ℕ) (n : ℕ) (c : Connection) → sound_of (rules_in connections groups n) c
    ≡ sound_of (config_in connections groups n) c
unfolding sound_of
rules_enough connections groups n c = refl

-- the size that a row says
size_is : (connections groups : List ℕ) (n : ℕ) → size_in 16 connections n ≡ (config_in connections groups n).size
unfolding size_in connection_row
size_is connections groups n = refl

-- an idle record by its two tests, of which the first reads the size alone
module _ (connections groups : List ℕ) (n : ℕ) (c : Connection) where
  pub quiet_not : idle_sound (size_in 16 connections n) c ≡ false → false ≡ quiet_sound (config_in connections groups n) c
  quiet_not e =
      let k : idle_sound (config_in connections groups n).size c ≡ false = sym (ap (λ (z : ℕ). idle_sound z c) (size_is connections groups n)) ∙ e in
      rw k

  pub quiet_when : idle_sound (size_in 16 connections n) c ≡ true → (w : Bool) → w ≡ watched (config_in connections groups n) c
      → w ≡ quiet_sound (config_in connections groups n) c
  quiet_when e w h =
      let k : idle_sound (config_in connections groups n).size c ≡ true = sym (ap (λ (z : ℕ). idle_sound z c) (size_is connections groups n)) ∙ e in
      rw k h

-- a record past the rows, that of a row, and that of a row where it is idle
pub past_in : (rows : ℕ) (connections groups routes : List ℕ) (n : ℕ) (c : Connection) → rows ≤ n → zero_of c ≡ sound_in rows connections groups routes n c
past_in rows connections groups routes n c h = rw (le-ltb _ _ h) refl

pub row-in : (rows : ℕ) (connections groups routes : List ℕ) (n : ℕ) (c : Connection) → n < rows
    → row_sound connections groups routes n c ≡ sound_in rows connections groups routes n c
row-in rows connections groups routes n c h = rw (lt-ltb _ _ h) refl

pub idle_in : (rows : ℕ) (connections groups routes : List ℕ) (n : ℕ) (c : Connection) → n < rows → idle c ≡ true
    → quiet_sound (config_in connections groups n) c ≡ sound_in rows connections groups routes n c
idle_in rows connections groups routes n c h p = rw (lt-ltb _ _ h) (sym (idle-sound (config_in connections groups n) routes n c p))

-- one element does not meet its test
all_not : {A : Type 0} (f : ℕ → A → Bool) (i : ℕ) (xs : List A) (d : A) → i < length xs → f i (get_or xs i d) ≡ false → false ≡ all_from f 0 xs
all_not f i xs d h p = go (all_from f 0 xs) refl
  where
    go : (b : Bool) → all_from f 0 xs ≡ b → false ≡ all_from f 0 xs
    go false q = sym q
    go true q =
        let z : 0 + i ≡ i = omega arith in
        impossible (sym p ∙ (rw z at (all-at f 0 i xs d q h)))

-- what the loops over the records hold: those below i are sound
module _ (rows : ℕ) (connections groups routes : List ℕ) (records : List Connection) where
  abbrev test : ℕ → Connection → Bool
  test = sound_in rows connections groups routes

  abbrev pub SoundTo : ℕ → Type 0
  SoundTo i = (i ≤ 16) × (length records ≡ 16) × (all_to test 0 i records ≡ true)

  pub sound-turn : (i : ℕ) → SoundTo i → i < 16 → true ≡ test i (get_or records i zero_record) → SoundTo (i + 1)
  sound-turn i p h t =
      let l : i < length records = omega (arith, p.1) in
      (omega arith, p.1, sym (all-turn test records zero_record _ true _ _ l (sym p.2) t))

  pub sound_not : (i : ℕ) → SoundTo i → i < 16 → test i (get_or records i zero_record) ≡ false → false ≡ all_from test 0 records
  sound_not i p h t =
      let l : i < length records = omega (arith, p.1) in
      all_not test i records zero_record l t

  pub sound-all : (i : ℕ) → SoundTo i → 16 ≤ i → true ≡ all_from test 0 records
  sound-all i p h =
      let e : i ≡ length records = omega (arith, p.0, p.1) in
      sym p.2 ∙ ap (λ (k : ℕ). all_to test 0 k records) e ∙ all-all test 0 records
