-- The edges of a transmit.
use Rattle.std.proofs.Common.{Ok, Err}
use Prim.Native.Nat.{ℕ}
use mathlib.Core.Path.{◌≡◌, refl, sym, ap, ◌∙◌}
use mathlib.Core.Bool.{true, false}
use mathlib.Core.List.{List, [], ◌∷◌}
use native.Mathlib.Omega.{arith}
use lib.ListN.{length, get_or}
use Rattle.connection.specs.declared.Mode.TheVariants.{Offline, Online}
use Rattle.send_destination.specs.Destination.{refusal_of, look_of, timer_of}
use Rattle.table_layout.specs.Layout.{rows_of, body_bytes, start_of, part_of, body_of, row_in}
use Rattle.lists.specs.Search.{bad_from, every}
use Rattle.lists.specs.Fold.{fold_from}
use Rattle.switches.specs.Switches.{is_on}
use Rattle.table_rows.specs.Rows.{connection_row, destination_row}
use Rattle.wire.specs.Be.{be}
use Rattle.state.specs.declared.State.{State}
use Rattle.send.specs.declared.NotSent.TheVariants.{NoDestination, SwitchedOff, RefusedAt}
use Rattle.send.specs.Verdict.{is_stored, verdict_of}
use Rattle.frame.specs.Frame.{frame}
use Rattle.wire.specs.Lay.{spell, lay}
use Rattle.send.specs.Send.{sending, append_of, look_at, check_of, wanted_at, store_of, store_all, transmit_of}
use Rattle.example_sending.specs.Valves.{valves, setpoint, remote, record_of, holding, both_valves, valve_destination}

-- ---- one destination

-- used 1,462 + 8 + 2 = 1,472 fits, 1,463 gives 8
pub fits_exactly : look_of 2 1472 (valve_destination 2 0) (holding 1462) ≡ 0
unfolding look_of refusal_of is_on
fits_exactly = refl

pub full : look_of 2 1472 (valve_destination 2 0) (holding 1463) ≡ 8
unfolding look_of refusal_of is_on
full = refl

-- a payload of 0 bytes: 8 bytes of header
pub empty_fits : look_of 0 1472 (valve_destination 0 0) (holding 1464) ≡ 0
unfolding look_of refusal_of is_on
empty_fits = refl

pub empty_full : look_of 0 1472 (valve_destination 0 0) (holding 1465) ≡ 8
unfolding look_of refusal_of is_on
empty_full = refl

-- longest 2 against length 2 and 3
pub longer-refused : look_of 3 1472 (valve_destination 2 0) (holding 0) ≡ 7
unfolding look_of refusal_of is_on
longer-refused = refl

-- 4 before 7, 7 before 8
pub four_first : look_of 3 1472 (valve_destination 2 0) (record_of Offline false (remote 1 1) 1472) ≡ 4
unfolding look_of refusal_of is_on
four_first = refl

pub closing_four : look_of 2 1472 (valve_destination 2 0) (record_of Online true (remote 1 1) 0) ≡ 4
unfolding look_of refusal_of is_on
closing_four = refl

pub seven-second : look_of 3 1472 (valve_destination 2 0) (holding 1472) ≡ 7
unfolding look_of refusal_of is_on
seven-second = refl

-- groups 0 with all switches off: on; a switched-off destination is skipped for 4, 7 and 8 too
pub off-first : look_of 3 1472 (valve_destination 2 1) (record_of Offline true (remote 1 1) 1472) ≡ 6
unfolding look_of refusal_of is_on
off-first = refl

-- the timer: stopped, sooner, later; trigger; due; timeout 0
pub timers : (timer_of false 5 0 false ≡ 5) × (timer_of false 3 5 false ≡ 3) × (timer_of false 5 3 false ≡ 3)
    × (timer_of true 5 3 false ≡ 0) × (timer_of false 5 0 true ≡ 0) × (timer_of false 0 7 false ≡ 7)
unfolding timer_of
timers = (refl, refl, refl, refl, refl, refl)

-- ---- all destinations, by what each says

abbrev said : List ℕ → ℕ → ℕ
said looks i = get_or looks i 5

pub verdicts : (verdict_of (said []) 0 ≡ Err NoDestination)
    × (verdict_of (said (5 ∷ 5 ∷ [])) 2 ≡ Err NoDestination)
    × (verdict_of (said (5 ∷ 6 ∷ [])) 2 ≡ Err SwitchedOff)
    × (verdict_of (said (6 ∷ 0 ∷ [])) 2 ≡ Ok tt)
    × (verdict_of (said (6 ∷ 7 ∷ [])) 2 ≡ Err (RefusedAt 7 1))
    × (verdict_of (said (0 ∷ 8 ∷ 4 ∷ [])) 3 ≡ Err (RefusedAt 8 1))
unfolding verdict_of every bad_from
verdicts = (refl, refl, refl, refl, refl, refl)

-- ---- a table of two valves

-- any refusal stores nothing anywhere
pub nothing_stored : (image : List ℕ) (s : State) (pdu : ℕ) (payload tx : List ℕ)
    → is_stored (check_of image s pdu (length payload)) ≡ false → transmit_of image s pdu payload tx ≡ sending s tx
unfolding transmit_of
nothing_stored image s pdu payload tx e = rw e

pub other_pdu : check_of valves (both_valves 0 0) 8 2 ≡ Err NoDestination
unfolding valves check_of look_at look_of refusal_of is_on verdict_of every bad_from rows_of body_bytes start_of part_of body_of row_in connection_row
    destination_row be
other_pdu = refl

-- what is stored: the header with its length, then the payload
pub stored_bytes : (transmit_of valves (both_valves 0 0) 9 setpoint (0 ∷ 0 ∷ 0 ∷ 0 ∷ 0 ∷ 0 ∷ 0 ∷ 0 ∷ 0 ∷ 0 ∷ [])).memory
    ≡ 0 ∷ 0 ∷ 1 ∷ 1 ∷ 0 ∷ 0 ∷ 0 ∷ 2 ∷ 0 ∷ 180 ∷ []
unfolding valves transmit_of store_all store_of append_of fold_from wanted_at check_of look_at look_of refusal_of timer_of is_on
    verdict_of every bad_from rows_of body_bytes start_of part_of body_of row_in connection_row destination_row be lay frame spell
stored_bytes = refl

-- so no transmit that stores nothing meets the definition
pub stores_something : ((image : List ℕ) (s : State) (pdu : ℕ) (payload tx : List ℕ) → (transmit_of image s pdu payload tx).memory ≡ tx) → ⊥
stores_something idle =
    let z : ◌≡◌ {A = ℕ} 180 0 =
    ap (λ (l : List ℕ). get_or l 9 0) (sym stored_bytes ∙ idle valves (both_valves 0 0) 9 setpoint (0 ∷ 0 ∷ 0 ∷ 0 ∷ 0 ∷ 0 ∷ 0 ∷ 0 ∷ 0 ∷ 0 ∷ [])) in
    omega arith
