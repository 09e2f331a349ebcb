-- WHEN EACH NUMBER IS GIVEN, with 11, 12, 2, 3 and 4 in the words of the rules (R4.1 to R4.6) and in their order. The other numbers are told by
-- the checks of theorem_answers; in words of their own they stand in theorem_transmit (5, 6, 7, 8) and theorem_match (10).
use Rattle.std.specs.Prelude.{ℕ, ◌<◌, ◌≤◌, ◌≡◌, Bool, true, false, not, List, [], ◌∷◌, length}
use Rattle.lists.specs.Search.{every}
use Rattle.table_layout.specs.Layout.{rows_of}
use Rattle.table_layout.specs.declared.Kind.TheVariants.{Connection as Connections, Group}
use Rattle.table_rows.specs.Rows.{group_of}
use Rattle.connection.specs.declared.Mode.TheVariants.{Online}
use Rattle.connection.specs.declared.Remote.{Remote}
use Rattle.connection.specs.declared.Event.{Event as Change}
use Rattle.connection.specs.declared.Event.TheVariants.{Switch}
use Rattle.state.specs.State.{record_at}
use Rattle.state.specs.Fresh.{config_of}
use Rattle.model.specs.Events.{change, segment, walk, take_waiting, datagram, accept, tick, transmit, switch_all, read_count, clear_count, Event, on, on_whole}
use Rattle.model_refines.specs.Machine.{Machine}
use Rattle.theorem_answers.specs.When.{check, first_failing, matching, transmits}
use Rattle.theorem_records.specs.Allowed.{MayHappen}
use Rattle.theorem_sound.specs.Rules.{SoundTogether}

-- ONE CHECK: where `Broken` holds the number is n; where it does not, the checks behind it say the number
pub data Decides (Broken : Type 0) (n : ℕ) (Later : ℕ → Type 0) (x : ℕ) : Type 0 where
  by_this : Broken → x ≡ n → Decides Broken n Later x
  by_later : (Broken → ⊥) → Later x → Decides Broken n Later x

-- no check is left: 0, done
abbrev pub NoneLeft : ℕ → Type 0
NoneLeft x = x ≡ 0

-- a switch number above 31 is not there
pub data NoSuchSwitch : Change → Type 0 where
  above_31 : (n : ℕ) (position : Bool) → 31 < n → NoSuchSwitch (Switch n position)

module _ (image : List ℕ) (m : Machine) where
  -- R4.3: lent receive memory has 23,424 bytes and send memory 23,552
  pub record RightLengths : Type 0 where
    pub receive : length m.rx ≡ 23424
    pub send : length m.tx ≡ 23552

  -- 11, lent memory of another length; 12, state or table not sound; then the event's own
  abbrev pub AfterGate : (ℕ → Type 0) → ℕ → Type 0
  AfterGate Own = Decides (RightLengths → ⊥) 11 (Decides (SoundTogether image m.state → ⊥) 12 Own)

  -- 2, the connection is not there
  abbrev pub OfConnection : ℕ → (ℕ → Type 0) → ℕ → Type 0
  OfConnection k Own = AfterGate (Decides (rows_of image Connections ≤ k) 2 Own)

  -- 4, not online or with close wanted
  pub record MayReceive (k : ℕ) : Type 0 where
    pub online : (record_at m.state k).mode ≡ Online
    pub stays : (record_at m.state k).close_wanted ≡ false

  -- 3 of a walk: a TCP connection, or a place beyond the end
  pub data NoWalk (k : ℕ) (d : List ℕ) (place : ℕ) : Type 0 where
    on_tcp : (config_of image k).tcp ≡ true → NoWalk k d place
    beyond_end : length d < place → NoWalk k d place

  -- 3 of a datagram (protocol 1) and an accept (protocol 2): the group has another protocol, or the source has address 0 or port 0
  pub record MayArrive (protocol group : ℕ) (source : Remote) : Type 0 where
    pub its : (group_of image group).protocol ≡ protocol
    pub address : source.address ≡ 0 → ⊥
    pub port : source.port ≡ 0 → ⊥

  abbrev pub Arriving : ℕ → Bool → ℕ → Remote → ℕ → Type 0
  Arriving protocol accepting group source =
      AfterGate (Decides (rows_of image Group ≤ group) 2 (Decides (MayArrive protocol group source → ⊥) 3
      (λ (x : ℕ). first_failing (check (every (λ i. not (matching image m accepting group source i)) 16) 10 ∷ []) ≡ x)))

  -- 3 of a count: a protocol other than 1 or 2
  pub data IsProtocol : ℕ → Type 0 where
    is_udp : IsProtocol 1
    is_tcp : IsProtocol 2

  abbrev pub Counting : ℕ → ℕ → Type 0
  Counting protocol = AfterGate (Decides (IsProtocol protocol → ⊥) 3 NoneLeft)

  -- THE NUMBER OF AN EVENT
  unfoldable pub GivenFor : Event → ℕ → Type 0
  GivenFor (on k (change e)) =
      OfConnection k (Decides (NoSuchSwitch e) 2 (Decides (MayHappen (config_of image k) (record_at m.state k) e → ⊥) 3 NoneLeft))
  GivenFor (on k (segment bytes)) = OfConnection k (Decides ((config_of image k).tcp ≡ false) 3 (Decides (MayReceive k → ⊥) 4 NoneLeft))
  GivenFor (on k (walk d place)) = OfConnection k (Decides (NoWalk k d place) 3 (Decides (MayReceive k → ⊥) 4 NoneLeft))
  -- 9, the out buffer is shorter than the waiting bytes
  GivenFor (on k (take_waiting room)) = OfConnection k (Decides (room < (record_at m.state k).used) 9 NoneLeft)
  GivenFor (on_whole (datagram group source)) = Arriving 1 false group source
  GivenFor (on_whole (accept group source)) = Arriving 2 true group source
  GivenFor (on_whole tick) = AfterGate NoneLeft
  -- 5, 6, then 4, 7 and 8 of each switched-on destination
  GivenFor (on_whole (transmit pdu payload)) = AfterGate (λ (x : ℕ). first_failing (transmits image m pdu (length payload)) ≡ x)
  GivenFor (on_whole (switch_all number position)) = AfterGate (Decides (31 < number) 2 NoneLeft)
  GivenFor (on_whole (read_count protocol)) = Counting protocol
  GivenFor (on_whole (clear_count protocol)) = Counting protocol
