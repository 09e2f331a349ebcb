-- A COMMISSIONING SHEET (R18.1, R18.2): single switches, three bytes each, and the words that they come to.
use Rattle.std.specs.Prelude.{ℕ, zero, suc, ◌+◌, ◌*◌, ◌/◌, Bool, true, false, cond, ◌&&◌, List, [], ◌∷◌, eqb, ltb, length, Result, Ok, Err}
use Rattle.wire.specs.Be.{byte_at}
use Rattle.lists.specs.Fold.{fold_from}
use Rattle.sheet.specs.declared.Words.{Words}
use Rattle.sheet.specs.declared.Switching.{Switching}
use Rattle.sheet.specs.declared.Unfit.{Unfit}
use Rattle.sheet.specs.declared.Fate.{Fate}
use Rattle.sheet.specs.declared.Fate.TheVariants.{Counts, Overridden, Missing}
use Rattle.sheet.specs.Force.{force_then, force_one, no_words, pair_at, with_pair}

-- R18.1: connection, switch number, position: 1 is on
abbrev pub switching : ℕ → ℕ → ℕ → Switching
switching connection number position = record { connection = connection; number = number; on = eqb position 1 }

-- R18.1: the switches of a sheet, in their order
unfoldable pub sheet_switches : List ℕ → List Switching
sheet_switches [] = []
sheet_switches (c ∷ []) = []
sheet_switches (c ∷ n ∷ []) = []
sheet_switches (c ∷ n ∷ p ∷ rest) = switching c n p ∷ sheet_switches rest

-- R18.1: a sheet fits when it is whole switches, and each position is 0 or 1; else the byte where it does not: a position's own, or
-- the first of a switch that is cut off
abbrev pub unfit : ℕ → Result Unit Unfit
unfit at = Err (record { at = at })

unfoldable pub fit_from : ℕ → List ℕ → Result Unit Unfit
fit_from at [] = Ok tt
fit_from at (c ∷ []) = unfit at
fit_from at (c ∷ n ∷ []) = unfit at
fit_from at (c ∷ n ∷ p ∷ rest) = cond (ltb p 2) (fit_from (at + 3) rest) (unfit (at + 2))

-- R18.2: a switch is there when its connection is one of the table's rows (sixteen at most) and its number at most 31; another is
-- refused with 2, and left out
abbrev pub switch_there : ℕ → Switching → Bool
switch_there rows s = ltb s.connection rows && ltb s.connection 16 && ltb s.number 32

-- R18.3: one switch more, behind those before it
unfoldable pub add_switch : ℕ → Words → Switching → Words
add_switch rows ws s =
    cond (switch_there rows s)
    (with_pair s.connection (force_then (pair_at ws s.connection) (force_one s.number s.on)) ws)
    ws

unfoldable pub sheet_from : ℕ → Words → List Switching → Words
sheet_from rows ws [] = ws
sheet_from rows ws (s ∷ rest) = sheet_from rows (add_switch rows ws s) rest

-- R18.3: the words of a list of switches
abbrev pub sheet_words : ℕ → List Switching → Words
sheet_words rows ss = sheet_from rows no_words ss

-- R18.6: a sheet shortened: its words, where it fits; else the byte where it does not
abbrev pub words_where : Result Unit Unfit → ℕ → List ℕ → Result Words Unfit
words_where (Ok tt) rows sheet = Ok (sheet_words rows (sheet_switches sheet))
words_where (Err at) rows sheet = Err at

unfoldable pub shorten_of : ℕ → List ℕ → Result Words Unfit
shorten_of rows sheet = words_where (fit_from 0 sheet) rows sheet

-- .. the words that are given, none where it does not fit
abbrev pub words_given : Result Words Unfit → Words
words_given (Ok ws) = ws
words_given (Err at) = no_words

-- R18.7: the switch whose bytes begin at a place; switch k begins at three times k
abbrev pub switching_at : List ℕ → ℕ → Switching
switching_at sheet at = switching (byte_at sheet at) (byte_at sheet (at + 1)) (byte_at sheet (at + 2))

abbrev pub alike : Switching → Switching → Bool
alike s t = eqb s.connection t.connection && eqb s.number t.number

-- the last switch of the sheet on the same connection and with the same number as switch k
abbrev pub pick_alike : List ℕ → ℕ → ℕ → ℕ → ℕ
pick_alike sheet k last i = cond (alike (switching_at sheet (k * 3)) (switching_at sheet (i * 3))) i last

unfoldable pub last_alike : List ℕ → ℕ → ℕ
last_alike sheet k = fold_from (pick_alike sheet k) (length sheet / 3) 0 k

-- R18.7: what becomes of switch k: it is not there and so refused, or a later one overrides it, or it counts
unfoldable pub fate_of : ℕ → List ℕ → ℕ → Fate
fate_of rows sheet k =
    cond (ltb k (length sheet / 3) && switch_there rows (switching_at sheet (k * 3)))
    (cond (eqb (last_alike sheet k) k) Counts (Overridden (last_alike sheet k)))
    Missing

-- R18.7: the shortened sheet: the switches that count, in their order
abbrev pub counts_for : Fate → Bool
counts_for Counts = true
counts_for (Overridden k) = false
counts_for Missing = false

unfoldable pub kept_from : ℕ → List ℕ → ℕ → ℕ → List Switching
kept_from rows sheet zero k = []
kept_from rows sheet (suc n) k =
    cond (counts_for (fate_of rows sheet k)) (switching_at sheet (k * 3) ∷ kept_from rows sheet n (suc k)) (kept_from rows sheet n (suc k))

abbrev pub kept_of : ℕ → List ℕ → List Switching
kept_of rows sheet = kept_from rows sheet (length sheet / 3) 0
