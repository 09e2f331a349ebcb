-- A SETPOINT FOR TWO VALVES: both get it or none does (`all_or_none`), and such states there are (`a_case`).
use Rattle.std.proofs.Common.{Result, Ok, Err}
use Prim.Native.Nat.{ℕ, zero, suc, ◌+◌, ◌<◌, ◌≤◌}
use mathlib.Core.Path.{◌≡◌, refl, ap, ◌∙◌}
use mathlib.Core.Bool.{Bool, true, false, cond}
use mathlib.Core.List.{List, [], ◌++◌, append-nil}
use native.Mathlib.Omega.{arith}
use lib.Dec.{ltb}
use lib.ListN.{length}
use borrow.Author.Tests.{lt-ltb, le-ltb}
use Rattle.wire.specs.Be.{be}
use Rattle.lists.specs.Search.{bad_from, every}
use Rattle.table_layout.specs.Layout.{rows_of, body_bytes, start_of, end_of, row_at, part_of, body_of, row_in}
use Rattle.table_rows.specs.declared.DestinationRow.{DestinationRow}
use Rattle.table_rows.specs.Rows.{group_row, connection_row, destination_row, destination_of}
use Rattle.table_rows.specs.Rules.{group_good, connection_good, route_good, destination_good, size_in, routes_share, destinations_share}
use Rattle.table_scan.specs.Scan.{share, clear_in, good_in}
use Rattle.table.specs.Table.{head_good, entry_good, rule, then_check, entries_place, head_place, all_rows_place, check_table}
use Rattle.connection.specs.declared.Mode.TheVariants.{Online}
use Rattle.connection.specs.declared.Connection.{Connection}
use Rattle.connection.specs.Connection.{is_online}
use Rattle.connection.specs.Sound.{sound_of, zero_of}
use Rattle.state.specs.declared.State.{State}
use Rattle.state.specs.State.{record_at}
use Rattle.state.specs.Fresh.{config_of}
use Rattle.frame.specs.Frame.{frame}
use Rattle.switches.specs.Switches.{is_on}
use Rattle.gate.specs.Lent.{sizes}
use Rattle.gate.specs.Gate.{gate_of, through}
use Rattle.gate.specs.Sound.{sound_at, records_sound, sound_state}
use Rattle.gate.proofs.Pass.{sound-passed, passed_gate}
use Rattle.send_destination.specs.Destination.{refusal_of, look_of}
use Rattle.send.specs.declared.NotSent.TheVariants.{RefusedAt}
use Rattle.send.specs.declared.Transmitted.{Transmitted}
use Rattle.send.specs.Verdict.{is_stored, verdict_of}
use Rattle.send.specs.Send.{destinations, Sending, sending, look_at, check_of, wanted_at, transmit_of, transmitted_of}
use Rattle.entry_send.specs.Sending.{not_sent, send_of, sent_memory}
use Rattle.law_waits.specs.Waits.{waits, frames_from, added_to}
use Rattle.law_turns.proofs.Entries.{transmit-turn}
use Rattle.example_sending.specs.Valves.{valves, setpoint, both_valves}
use Rattle.example_sending.specs.Setpoint.{valves_with, TwoValves, Room, Full, Both, Neither, AllOrNone}
use Rattle.example_sending.proofs.Transmits.{nothing_stored}
use Rattle.connection.specs.declared.Refusal.{Refusal}
use Rattle.send.specs.declared.NotSent.{NotSent}

-- ---- what a destination that is on says to a payload that it allows: 0 with room, 8 without
module _ (len : ℕ) (d : DestinationRow) (c : Connection) (on : is_on d.groups c.switches ≡ true)
    (online : c.mode ≡ Online) (stays : c.close_wanted ≡ false)
    (short : len ≤ d.longest) where
  looks : (b : Bool) → ltb 1472 (c.used + 8 + len) ≡ b → look_of len 1472 d c ≡ cond b 8 0
  unfolding look_of refusal_of
  looks b e = rw (on, ap is_online online, stays, le-ltb _ _ short, e)

-- ---- the two rows of the table
module _ (s : State) (rx tx payload : List ℕ) (v : TwoValves s rx tx payload) where
  abbrev len : ℕ
  len = length payload

  -- row k is of valve k
  row : (k : ℕ) → k < 2 → (b : Bool) → ltb 1472 ((record_at s k).used + 8 + len) ≡ b → look_at valves s 9 len k ≡ cond b 8 0
  unfolding look_at valves part_of body_of row_in start_of body_bytes rows_of connection_row destination_row be is_on
  row zero h b e = looks len (destination_of valves 0) (record_at s 0) refl (v.online 0 h) (v.stays 0 h) v.short b e
  row (suc zero) h b e = looks len (destination_of valves 1) (record_at s 1) refl (v.online 1 h) (v.stays 1 h) v.short b e
  row (suc (suc k)) h b e = absurd (omega arith)

  rows : destinations valves ≡ 2
  unfolding valves body_of part_of start_of body_bytes rows_of be
  rows = refl

-- the verdict of two rows
two_clear : (look : ℕ → ℕ) → look 0 ≡ 0 → look 1 ≡ 0 → verdict_of look 2 ≡ Ok tt
unfolding verdict_of every bad_from
two_clear look a b = rw (a, b)

second-says : (look : ℕ → ℕ) → look 0 ≡ 0 → look 1 ≡ 8 → verdict_of look 2 ≡ Err (RefusedAt 8 1)
unfolding verdict_of every bad_from
second-says look a b = rw (a, b) (ap (λ (n : ℕ). Err (RefusedAt n 1)) b)

first_says : (look : ℕ → ℕ) → look 0 ≡ 8 → verdict_of look 2 ≡ Err (RefusedAt 8 0)
unfolding verdict_of every bad_from
first_says look a = rw a (ap (λ (n : ℕ). Err (RefusedAt n 0)) a)

-- ---- past the gate
module _ (s : State) (rx tx payload : List ℕ) (v : TwoValves s rx tx payload) where
  gate : gate_of (sizes (valves_with s rx tx)) ≡ Ok tt
  gate = passed_gate (sizes (valves_with s rx tx)) v.passed

  sent_is : send_of (valves_with s rx tx) 9 payload ≡ transmitted_of valves s 9 payload tx
  unfolding send_of
  sent_is = ap (λ (g : Result Unit Refusal). through g (not_sent s) (transmitted_of valves s 9 payload tx)) gate

  memory-is : sent_memory (valves_with s rx tx) 9 payload ≡ (transmit_of valves s 9 payload tx).memory
  unfolding sent_memory
  memory-is = ap (λ (g : Result Unit Refusal). through g (λ r. tx) (transmit_of valves s 9 payload tx).memory) gate

  answer-is : (t : Result Unit NotSent) → check_of valves s 9 (length payload) ≡ t → (send_of (valves_with s rx tx) 9 payload).answer ≡ t
  answer-is t e = ap (λ (x : Transmitted). x.answer) sent_is ∙ e

  check-is : (t : Result Unit NotSent) → verdict_of (look_at valves s 9 (length payload)) 2 ≡ t → check_of valves s 9 (length payload) ≡ t
  unfolding check_of
  check-is t e = ap (verdict_of (look_at valves s 9 (length payload))) (rows s rx tx payload v) ∙ e

  -- where it is stored, each connection gets its frames
  grows : check_of valves s 9 (length payload) ≡ Ok tt → (k : ℕ)
      → waits (send_of (valves_with s rx tx) 9 payload).state (sent_memory (valves_with s rx tx) 9 payload) k
      ≡ waits s tx k ++ frames_from valves s 9 payload k (destinations valves) 0
  unfolding added_to
  grows e k =
      transmit-turn (valves_with s rx tx) 9 payload v.sixteen v.passed.sound k
      ∙ ap (λ (g : Result Unit Refusal). waits s tx k ++ through g (λ r. []) (added_to valves s 9 payload k)) gate
      ∙ ap (λ (t : Result Unit NotSent). waits s tx k ++ cond (is_stored t) (frames_from valves s 9 payload k (destinations valves) 0) []) e

  frames : (frames_from valves s 9 payload 0 (destinations valves) 0 ≡ frame 0x101 payload)
      × (frames_from valves s 9 payload 1 (destinations valves) 0 ≡ frame 0x102 payload)
  unfolding valves part_of body_of row_in start_of body_bytes rows_of destination_row be frames_from wanted_at is_on
  frames = (append-nil (frame 0x101 payload), append-nil (frame 0x102 payload))

  gets : check_of valves s 9 (length payload) ≡ Ok tt → Both s rx tx payload
  gets e =
      record {
        answer = answer-is (Ok tt) e;
        first = grows e 0 ∙ ap (λ (l : List ℕ). waits s tx 0 ++ l) frames.0;
        second = grows e 1 ∙ ap (λ (l : List ℕ). waits s tx 1 ++ l) frames.1;
      }

  gets_not : (d : ℕ) → check_of valves s 9 (length payload) ≡ Err (RefusedAt 8 d) → Neither s rx tx payload d
  gets_not d e =
      let left : transmit_of valves s 9 payload tx ≡ sending s tx = nothing_stored valves s 9 payload tx (ap is_stored e) in
      record {
        answer = answer-is (Err (RefusedAt 8 d)) e;
        state = ap (λ (x : Transmitted). x.state) sent_is ∙ ap (λ (x : Sending). x.state) left;
        memory = memory-is ∙ ap (λ (x : Sending). x.memory) left;
      }

  pub all_or_none : AllOrNone s rx tx payload
  all_or_none =
      record {
        both = λ a b. gets (check-is (Ok tt) (two_clear look (clear 0 (omega arith) a) (clear 1 (omega arith) b)));
        second_full = λ a b. gets_not 1 (check-is (Err (RefusedAt 8 1)) (second-says look (clear 0 (omega arith) a) (full 1 (omega arith) b)));
        first_full = λ a. gets_not 0 (check-is (Err (RefusedAt 8 0)) (first_says look (full 0 (omega arith) a)));
      }
    where
      look : ℕ → ℕ
      look = look_at valves s 9 (length payload)

      clear : (k : ℕ) → k < 2 → Room s rx tx payload k → look k ≡ 0
      clear k h a = row s rx tx payload v k h false (le-ltb _ _ a)

      full : (k : ℕ) → k < 2 → Full s rx tx payload k → look k ≡ 8
      full k h a = row s rx tx payload v k h true (lt-ltb _ _ a)

-- SUCH STATES THERE ARE: the last byte that fits at the second valve; one more; and one more at the first
passes : (sound_state valves (both_valves 0 1462) ≡ true) × (sound_state valves (both_valves 0 1463) ≡ true) × (sound_state valves (both_valves 1463 0) ≡ true)
unfolding valves be bad_from every rows_of body_bytes start_of end_of row_at part_of body_of row_in group_row connection_row destination_row group_good
    connection_good
    route_good destination_good size_in routes_share destinations_share share clear_in good_in head_good entry_good rule then_check entries_place head_place
    all_rows_place check_table config_of sound_of zero_of sound_at records_sound sound_state
passes = (refl, refl, refl)

stands : (a b : ℕ) → sound_state valves (both_valves a b) ≡ true → (rx tx : List ℕ)
    → length rx ≡ 23424 → length tx ≡ 23552 → TwoValves (both_valves a b) rx tx setpoint
stands a b e rx tx received long =
    record {
      passed = sound-passed (sizes (valves_with (both_valves a b) rx tx)) received long e;
      sixteen = refl;
      online = λ k h. ups k h;
      stays = λ k h. rests k h;
      short = omega arith;
    }
  where
    ups : (k : ℕ) → k < 2 → (record_at (both_valves a b) k).mode ≡ Online
    ups zero h = refl
    ups (suc zero) h = refl
    ups (suc (suc k)) h = absurd (omega arith)

    rests : (k : ℕ) → k < 2 → (record_at (both_valves a b) k).close_wanted ≡ false
    rests zero h = refl
    rests (suc zero) h = refl
    rests (suc (suc k)) h = absurd (omega arith)

pub a_case : (rx tx : List ℕ) → length rx ≡ 23424 → length tx ≡ 23552
    → TwoValves (both_valves 0 1462) rx tx setpoint × TwoValves (both_valves 0 1463) rx tx setpoint × TwoValves (both_valves 1463 0) rx tx setpoint
a_case rx tx received long =
    (stands 0 1462 passes.0 rx tx received long, stands 0 1463 passes.1 rx tx received long, stands 1463 0 passes.2 rx tx received long)
