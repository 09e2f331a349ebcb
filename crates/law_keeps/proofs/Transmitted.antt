-- A transmit leaves a sound state sound.
use Rattle.std.proofs.Common.{Result, Ok, Err}
use Prim.Native.Nat.{ℕ, ◌<◌, ◌≤◌}
use mathlib.Core.Path.{◌≡◌, refl, sym, ap, subst}
use mathlib.Core.Bool.{Bool, true, false, cond}
use mathlib.Core.List.{List}
use native.Mathlib.Omega.{arith}
use native.Mathlib.Decide.{dec_lt}
use lib.ListN.{length, get_or-eq_default}
use borrow.Author.Tests.{leb-true}
use Rattle.connection.specs.declared.Connection.{Connection}
use Rattle.connection.specs.Connection.{zero_record}
use Rattle.gate.specs.Lent.{Loan, sizes}
use Rattle.gate.specs.Gate.{gate_of, through}
use Rattle.gate.specs.Sound.{records_sound}
use Rattle.gate.proofs.Pass.{gate_passed}
use Rattle.gate.proofs.Records.{row-sound, past-zero, record-at}
use Rattle.table_layout.specs.Layout.{rows_of}
use Rattle.table_layout.specs.declared.Kind.TheVariants.{Connection as Connections}
use Rattle.lists.proofs.Fold.{fold_goes}
use Rattle.table_rows.specs.Rows.{connection_of, destination_of}
use Rattle.state.specs.declared.State.{State}
use Rattle.state.specs.State.{record_at}
use Rattle.state.specs.Fresh.{config_of}
use Rattle.table.specs.Accepts.{Accepts}
use Rattle.table.proofs.Facts.{accepted_facts}
use Rattle.send.specs.Verdict.{is_stored}
use Rattle.send.specs.Send.{destinations, Sending, sending, append_of, wanted_at, store_of, store_all, check_of, transmit_of, transmitted_of, Ready}
use Rattle.send.proofs.Room.{Meets, clear_meets, clear_roomy}
use Rattle.entry_send.specs.Sending.{not_sent, send_of}
use Rattle.entry_send.proofs.Past.{ready_from, connection-there}
use Rattle.law_waits.proofs.Held.{Fine, fine-step, begin-fine}
use Rattle.law_keeps.proofs.Rows.{unchanged, sound-row-at, row-set}
use Rattle.law_keeps.proofs.Records.{sent_keeps}
use Rattle.connection.specs.declared.Refusal.{Refusal}

-- no connection of a sound state has more bytes waiting than its stretch holds
pub all_fit : (image : List ℕ) → Accepts image → (s : State) → records_sound image s.connections ≡ true → (k : ℕ) → (record_at s k).used ≤ 1472
unfolding config_of
all_fit image a s h k = go (dec_lt k (rows_of image Connections)) (dec_lt k (length s.connections))
  where
    none : record_at s k ≡ zero_record → (record_at s k).used ≤ 1472
    none e = omega (arith, ap (λ (c : Connection). c.used) e)

    go : Dec (k < rows_of image Connections) → Dec (k < length s.connections) → (record_at s k).used ≤ 1472
    go (yes r) d =
        let one = row-sound image k (record_at s k) (sound-row-at image s.connections k h r) r in
        omega (arith, leb-true (record_at s k).used (config_of image k).size one.send.fits, (a.sized k r).1)
    go (no n) (yes l) = none (past-zero image k (record_at s k) (record-at image s.connections k h l) (omega (arith, n)))
    go (no n) (no o) = none (get_or-eq_default s.connections zero_record (omega (arith, o)))

module _ (image : List ℕ) (ready : Ready image) (there : (i : ℕ) → i < destinations image → (destination_of image i).connection < rows_of image Connections)
    (s : State) (pdu : ℕ) (payload : List ℕ) (clear : is_stored (check_of image s pdu (length payload)) ≡ true) where
  abbrev Good : Sending → ℕ → Type 0
  Good x i = Fine image ready s pdu payload (clear_roomy image s pdu payload clear ready) x i

  own_keeps : (x : Sending) (i : ℕ) → Good x i → i < destinations image
      → wanted_at image s pdu payload i ≡ true → records_sound image x.state.connections ≡ true
      → records_sound image (append_of (destination_of image i) payload x).state.connections ≡ true
  unfolding append_of config_of
  own_keeps x i f h w p =
      let k = (destination_of image i).connection in
      let m : Meets (length payload) (connection_of image (destination_of image i).connection).size
      (destination_of image i) (record_at x.state (destination_of image i).connection) =
      subst (Meets (length payload) (connection_of image (destination_of image i).connection).size (destination_of image i))
      (sym (f.same i (omega arith) h w)) (clear_meets image s pdu payload clear i h w) in
      row-set image x.state (destination_of image i).connection _ p (there i h)
      (λ q. sent_keeps (config_of image (destination_of image i).connection) (destination_of image i) (length payload) _ q m) unchanged

  keep-step : (x : Sending) (i : ℕ) → Good x i → i < destinations image → records_sound image x.state.connections ≡ true
      → records_sound image (store_of image s pdu payload x i).state.connections ≡ true
  unfolding store_of
  keep-step x i f h p = go (wanted_at image s pdu payload i) refl
    where
      go : (b : Bool) → wanted_at image s pdu payload i ≡ b
          → records_sound image (cond b (append_of (destination_of image i) payload x) x).state.connections ≡ true
      go false w = p
      go true w = own_keeps x i f h w p

  store_keeps : (tx : List ℕ) → length s.connections ≡ 16 → length tx ≡ 23552
      → ((k : ℕ) → (record_at s k).used ≤ 1472) → records_sound image s.connections ≡ true
      → records_sound image (store_all image s pdu payload tx).state.connections ≡ true
  unfolding store_all
  store_keeps tx sixteen long fits p =
      (fold_goes (store_of image s pdu payload)
      (λ (i : ℕ) (x : Sending). Good x i × (records_sound image x.state.connections ≡ true)) (destinations image) 0 (sending s tx)
      (λ i x l u r. (
        fine-step image ready s pdu payload (clear_roomy image s pdu payload clear ready) x i r.0 (omega arith),
        keep-step x i r.0 (omega arith) r.1,
      ))
      (begin-fine image ready s pdu payload tx sixteen long fits clear, p)).1

-- the entry point
pub transmit_keeps : (l : Loan) (pdu : ℕ) (payload : List ℕ) → length l.state.connections ≡ 16 → records_sound l.image l.state.connections ≡ true
    → records_sound l.image (send_of l pdu payload).state.connections ≡ true
unfolding send_of transmit_of
transmit_keeps l pdu payload sixteen h = go (gate_of (sizes l)) refl
  where
    inner : Accepts l.image → length l.tx ≡ 23552 → (b : Bool) → is_stored (check_of l.image l.state pdu (length payload)) ≡ b
        → records_sound l.image (cond b (store_all l.image l.state pdu payload l.tx) (sending l.state l.tx)).state.connections ≡ true
    inner a long false e = h
    inner a long true e = store_keeps l.image (ready_from l.image a) (connection-there l.image a)
        l.state pdu payload e l.tx sixteen long (all_fit l.image a l.state h) h

    go : (q : Result Unit Refusal) → gate_of (sizes l) ≡ q
        → records_sound l.image (through q (not_sent l.state) (transmitted_of l.image l.state pdu payload l.tx)).state.connections ≡ true
    go (Err r) e = h
    go (Ok tt) e =
        let p = gate_passed (sizes l) e in
        inner (accepted_facts l.image p.table) p.send (is_stored (check_of l.image l.state pdu (length payload))) refl
