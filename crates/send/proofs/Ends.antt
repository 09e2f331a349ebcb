-- The two ends of a transmit: all stored, or nothing.
use Rattle.std.proofs.Common.{Result}
use Prim.Native.Nat.{ℕ, ◌≤◌}
use mathlib.Core.Path.{◌≡◌, sym, ap, ap₂, ◌∙◌}
use mathlib.Core.Bool.{true, false}
use mathlib.Core.List.{List}
use lib.ListN.{length}
use Rattle.state.specs.declared.State.{State}
use Rattle.send.specs.declared.Transmitted.{Transmitted}
use Rattle.send.specs.Verdict.{is_stored}
use Rattle.send.specs.Send.{destinations, Sending, sending, check_of, store_all, transmit_of, transmitted_of}
use Rattle.send.proofs.Store.{Storing, store_end}
use Rattle.send.specs.declared.NotSent.{NotSent}

module _ (image : List ℕ) (s : State) (pdu : ℕ) (payload tx : List ℕ) (answer : Result Unit NotSent) where
  -- the answer is the check's
  module _ (e : answer ≡ check_of image s pdu (length payload)) where
    pub was_clear : is_stored answer ≡ true → is_stored (check_of image s pdu (length payload)) ≡ true
    was_clear t = sym (ap is_stored e) ∙ t

    at_clear : is_stored answer ≡ true → store_all image s pdu payload tx ≡ transmit_of image s pdu payload tx
    unfolding transmit_of
    at_clear t = rw (← e, t)

    at-refused : is_stored answer ≡ false → sending s tx ≡ transmit_of image s pdu payload tx
    unfolding transmit_of
    at-refused t = rw (← e, t)

    answered : (next : State) (tx' : List ℕ) → sending next tx' ≡ transmit_of image s pdu payload tx
        → (◌≡◌ {A = Transmitted} (record { answer = answer; state = next }) (transmitted_of image s pdu payload tx))
        × (tx' ≡ (transmit_of image s pdu payload tx).memory)
    answered next tx' p =
        (ap₂ (λ (a : Result Unit NotSent) (m : State). record { answer = a; state = m }) e (ap (λ (x : Sending). x.state) p), ap (λ (x : Sending). x.memory) p)

    -- after the last row of the second pass, and where there is none
    pub stored_ended : is_stored answer ≡ true → (tx' : List ℕ) (next : State) (j : ℕ) → Storing image s pdu payload tx tx' next j → destinations image ≤ j
        → (◌≡◌ {A = Transmitted} (record { answer = answer; state = next }) (transmitted_of image s pdu payload tx))
        × (tx' ≡ (transmit_of image s pdu payload tx).memory)
    stored_ended t tx' next j v h = answered next tx' (store_end image s pdu payload tx tx' next j v h ∙ at_clear t)

    pub refused_ended : is_stored answer ≡ false
        → (◌≡◌ {A = Transmitted} (record { answer = answer; state = s }) (transmitted_of image s pdu payload tx))
        × (tx ≡ (transmit_of image s pdu payload tx).memory)
    refused_ended t = answered s tx (at-refused t)
