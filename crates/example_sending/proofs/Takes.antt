-- The edges of taking the waiting bytes.
use Rattle.std.proofs.Common.{Ok, Err}
use mathlib.Core.Path.{◌≡◌, refl}
use mathlib.Core.Bool.{true, false}
use mathlib.Core.List.{[], ◌∷◌}
use Rattle.connection.specs.declared.Mode.TheVariants.{Reconnect, Online}
use Rattle.wire.specs.Lay.{lay}
use Rattle.send_waiting.specs.declared.NotTaken.TheVariants.{Short}
use Rattle.send_waiting.specs.Waiting.{taking_of, take_of, out_of}
use Rattle.example_sending.specs.Valves.{remote, record_of, holding, service}

-- room for all, and one byte less
pub room_exactly : (taking_of 1472 (holding 1472) ≡ Ok (1472, (remote 1 1))) × (taking_of 1471 (holding 1472) ≡ Err Short)
unfolding taking_of
room_exactly = (refl, refl)

-- nothing waiting: 0 bytes and the record's remote, never 9; nothing changes
pub nothing-waiting : (taking_of 0 (holding 0) ≡ Ok (0, (remote 1 1))) × (take_of (service true) 0 (holding 0) ≡ holding 0)
unfolding taking_of take_of
nothing-waiting = (refl, refl)

-- the bytes past the count stay; on a refusal all stay
pub out-bytes : (out_of (holding 2) (1 ∷ 2 ∷ []) (7 ∷ 7 ∷ 7 ∷ []) ≡ 1 ∷ 2 ∷ 7 ∷ []) × (out_of (holding 2) (1 ∷ 2 ∷ []) (7 ∷ []) ≡ 7 ∷ [])
unfolding out_of lay
out-bytes = (refl, refl)

-- a refusal changes nothing
pub refused-changes-nothing : take_of (service false) 1 (holding 2) ≡ holding 2
unfolding take_of
refused-changes-nothing = refl

-- 00582: UDP becomes reconnect with the configured remote
pub udp_back : take_of (service false) 2 (holding 2) ≡ record_of Reconnect false (remote 0 0) 0
unfolding take_of
udp_back = refl

-- 00644: TCP gets close wanted
pub tcp_close : take_of (service true) 2 (holding 2) ≡ record_of Online true (remote 1 1) 0
unfolding take_of
tcp_close = refl
