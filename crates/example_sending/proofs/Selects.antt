-- The edges of selection.
use Rattle.std.proofs.Common.{Option, ℕ, Some, None}
use mathlib.Core.Path.{◌≡◌, refl}
use mathlib.Core.Bool.{Bool, true, false}
use mathlib.Core.List.{List, [], ◌∷◌}
use lib.ListN.{length, get_or}
use Rattle.connection.specs.declared.Mode.TheVariants.{Offline, Reconnect, Online}
use Rattle.connection.specs.declared.Connection.{Connection}
use Rattle.connection.specs.Connection.{zero_record}
use Rattle.lists.specs.Fold.{fold_from}
use Rattle.select.specs.Best.{better, chosen_of}
use Rattle.select.specs.Choose.{rank_of, score_of}
use Rattle.example_sending.specs.Valves.{remote, record_of}

-- the choice among the records of a group, for a source at address 7 and port 9
abbrev among : Bool → List Connection → Option ℕ
among accept cs = chosen_of (λ i. score_of accept (remote 7 9) true (get_or cs i zero_record)) (length cs)

-- remote 0:0 against an exact row: the exact row
pub exact_wins : among false (record_of Reconnect false (remote 0 0) 0 ∷ record_of Online false (remote 7 9) 0 ∷ []) ≡ Some 1
unfolding chosen_of fold_from better score_of rank_of
exact_wins = refl

-- at equality, the lowest number: mode does not rank
pub ties_to_lowest : among false (record_of Reconnect false (remote 7 0) 0 ∷ record_of Online false (remote 7 0) 0 ∷ []) ≡ Some 0
unfolding chosen_of fold_from better score_of rank_of
ties_to_lowest = refl

-- the named valve (its address, any port) beats the named port (any address), whichever stands first, for a datagram and for an accept
pub valve_before_port : (accept : Bool) → among accept (record_of Reconnect false (remote 7 0) 0 ∷ record_of Reconnect false (remote 0 9) 0 ∷ []) ≡ Some 0
unfolding chosen_of fold_from better score_of rank_of
valve_before_port true = refl
valve_before_port false = refl

pub valve_after_port : (accept : Bool) → among accept (record_of Reconnect false (remote 0 9) 0 ∷ record_of Reconnect false (remote 7 0) 0 ∷ []) ≡ Some 1
unfolding chosen_of fold_from better score_of rank_of
valve_after_port true = refl
valve_after_port false = refl

-- the port beats nothing named
pub port-before_any : (accept : Bool) → among accept (record_of Reconnect false (remote 0 0) 0 ∷ record_of Reconnect false (remote 0 9) 0 ∷ []) ≡ Some 1
unfolding chosen_of fold_from better score_of rank_of
port-before_any true = refl
port-before_any false = refl

-- close wanted does not count, nor does offline
pub closing-left-out : among false
    (record_of Online true (remote 7 9) 0 ∷ record_of Offline false (remote 7 9) 0 ∷ record_of Reconnect false (remote 0 0) 0 ∷ [])
    ≡ Some 2
unfolding chosen_of fold_from better score_of rank_of
closing-left-out = refl

-- another address or port does not match; no member: 10
pub none_matches : among false (record_of Online false (remote 8 9) 0 ∷ record_of Online false (remote 7 8) 0 ∷ []) ≡ None
unfolding chosen_of fold_from better score_of rank_of
none_matches = refl

pub no_member : among false [] ≡ None
unfolding chosen_of fold_from better score_of rank_of
no_member = refl

-- an accept: reconnect only
pub online_not_accepted : among true (record_of Online false (remote 7 9) 0 ∷ record_of Reconnect false (remote 0 0) 0 ∷ []) ≡ Some 1
unfolding chosen_of fold_from better score_of rank_of
online_not_accepted = refl
