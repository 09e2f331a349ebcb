-- What a check that refuses nothing shows of each wanted destination.
use Rattle.std.proofs.Common.{Err}
use Prim.Native.Nat.{ℕ, ◌+◌, ◌<◌, ◌≤◌}
use mathlib.Core.Path.{◌≡◌, refl}
use mathlib.Core.Bool.{Bool, true, false, cond, not, ◌||◌}
use mathlib.Core.List.{List}
use native.Mathlib.Omega.{arith}
use native.Mathlib.Decide.{dec_lt}
use lib.Dec.{eqb, ltb}
use lib.ListN.{length}
use borrow.Author.Tests.{ltb-false, lt-ltb}
use Rattle.connection.specs.declared.Connection.{Connection}
use Rattle.connection.specs.Connection.{is_online}
use Rattle.send_destination.specs.Destination.{refusal_of, look_of}
use Rattle.lists.specs.Search.{first_bad, every}
use Rattle.lists.proofs.Both.{and_left, and_right}
use Rattle.lists.proofs.Search.{none_bad}
use Rattle.switches.specs.Switches.{is_on}
use Rattle.table_rows.specs.declared.DestinationRow.{DestinationRow}
use Rattle.table_rows.specs.Rows.{connection_of, destination_of}
use Rattle.state.specs.declared.State.{State}
use Rattle.state.specs.State.{record_at}
use Rattle.send.specs.declared.NotSent.TheVariants.{NoDestination, SwitchedOff, RefusedAt}
use Rattle.send.specs.Verdict.{is_out, passes, decided_at, verdict_of, is_stored}
use Rattle.send.specs.Send.{destinations, look_at, check_of, wanted_at, Ready, Roomy}

-- a stored verdict comes from rows of which none refuses
stored_none : (look : ℕ → ℕ) (n : ℕ) (a b : Bool) (k : ℕ)
    → is_stored (cond a (Err NoDestination) (cond b (Err SwitchedOff) (decided_at look n k))) ≡ true → n ≤ k
stored_none look n a b k = go a b (dec_lt k n)
  where
    go : (a b : Bool) → Dec (k < n) → is_stored (cond a (Err NoDestination) (cond b (Err SwitchedOff) (decided_at look n k))) ≡ true → n ≤ k
    go true b x e = absurd (let o : ◌≡◌ {A = ℕ} 0 1 = cc in omega arith)
    go false true x e = absurd (let o : ◌≡◌ {A = ℕ} 0 1 = cc in omega arith)
    go false false (no h) e = omega (arith, h)
    go false false (yes h) e =
        absurd (let f : is_stored (Err (RefusedAt (look k) k)) ≡ true = rw (lt-ltb _ _ h) at e in let o : ◌≡◌ {A = ℕ} 0 1 = cc in omega arith)

pub clear_rows : (look : ℕ → ℕ) (n : ℕ) → is_stored (verdict_of look n) ≡ true → (i : ℕ) → i < n → passes (look i) ≡ true
unfolding verdict_of
clear_rows look n e = none_bad (λ i. passes (look i)) n
    (stored_none look n (every (λ i. eqb (look i) 5) n) (every (λ i. is_out (look i)) n) (first_bad (λ i. passes (look i)) n) e)

-- a switched-on destination that does not refuse: online without close wanted, long enough, and with room
pub record Meets (len size : ℕ) (d : DestinationRow) (c : Connection) : Type 0 where
  pub up : is_online c.mode ≡ true
  pub stays : c.close_wanted ≡ false
  pub short : len ≤ d.longest
  pub room : c.used + 8 + len ≤ size

pub look_meets : (len size : ℕ) (d : DestinationRow) (c : Connection)
    → is_on d.groups c.switches ≡ true → passes (look_of len size d c) ≡ true → Meets len size d c
unfolding look_of refusal_of
look_meets len size d c w e =
    go (is_online c.mode) refl c.close_wanted refl (ltb d.longest len) refl (ltb size (c.used + 8 + len)) refl (rw w at e)
  where
    go : (x : Bool) → is_online c.mode ≡ x → (y : Bool) → c.close_wanted ≡ y
        → (z : Bool) → ltb d.longest len ≡ z → (u : Bool) → ltb size (c.used + 8 + len) ≡ u
        → passes (cond (not x || y) 4 (cond z 7 (cond u 8 0))) ≡ true → Meets len size d c
    go false p y q z r u s h = absurd (let o : ◌≡◌ {A = ℕ} 0 1 = cc in omega arith)
    go true p true q z r u s h = absurd (let o : ◌≡◌ {A = ℕ} 0 1 = cc in omega arith)
    go true p false q true r u s h = absurd (let o : ◌≡◌ {A = ℕ} 0 1 = cc in omega arith)
    go true p false q false r true s h = absurd (let o : ◌≡◌ {A = ℕ} 0 1 = cc in omega arith)
    go true p false q false r false s h = record { up = p; stays = q; short = ltb-false _ _ r; room = ltb-false _ _ s }

-- at the call
module _ (image : List ℕ) (s : State) (pdu : ℕ) (payload : List ℕ) (clear : is_stored (check_of image s pdu (length payload)) ≡ true) where
  pub clear_meets : (i : ℕ) → i < destinations image → wanted_at image s pdu payload i ≡ true
      → Meets (length payload) (connection_of image (destination_of image i).connection).size
      (destination_of image i) (record_at s (destination_of image i).connection)
  unfolding check_of look_at wanted_at
  clear_meets i h w =
      let own : eqb (destination_of image i).pdu pdu ≡ true = and_left (eqb (destination_of image i).pdu pdu) _ w in
      let on : is_on (destination_of image i).groups (record_at s (destination_of image i).connection).switches ≡ true =
      and_right (eqb (destination_of image i).pdu pdu) _ w in
      look_meets _ _ _ _ on (rw own at (clear_rows (look_at image s pdu (length payload)) (destinations image) clear i h))

  pub clear_roomy : Ready image → Roomy image s pdu payload
  clear_roomy r i h w = omega (arith, (clear_meets i h w).room, r.sized i h)
