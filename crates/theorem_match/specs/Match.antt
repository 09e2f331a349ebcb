-- A DATAGRAM'S AND AN ACCEPT'S ANSWER IN THE RULES' WORDS (R7.1 to R7.5): who counts, who matches, who is the best, and when each answer is given.
use Rattle.std.specs.Prelude.{ℕ, ◌<◌, ◌≤◌, ◌≡◌, Bool, true, false, Ok, Err, Result}
use Rattle.table_layout.specs.Layout.{rows_of}
use Rattle.table_layout.specs.declared.Kind.TheVariants.{Connection as Connections, Group}
use Rattle.table_rows.specs.Rows.{group_of, connection_of}
use Rattle.connection.specs.declared.Mode.{Mode}
use Rattle.connection.specs.declared.Mode.TheVariants.{Reconnect, Online}
use Rattle.connection.specs.declared.Remote.{Remote}
use Rattle.connection.specs.declared.Refusal.{Refusal}
use Rattle.connection.specs.declared.Refusal.TheVariants.{Missing, Denied}
use Rattle.state.specs.State.{record_at}
use Rattle.gate.specs.Lent.{Lent}
use Rattle.gate.specs.Gate.{gate_of}
use Rattle.select.specs.declared.NotMet.TheVariants.{Refused, Unmatched}
use Rattle.select.specs.declared.NotMet.{NotMet}

-- R7.5: the four classes of a match, and the place of each, best first: both fields, the address with any port, any address with the port, neither
pub data MatchClass : Type 0 where
  both any-port any-address neither : MatchClass

abbrev pub class_place : MatchClass → ℕ
class_place both = 0
class_place any-port = 1
class_place any-address = 2
class_place neither = 3

-- R7.4: how a record's remote matches a source: each field is equal to the source's, or 0 in the record
pub data MatchesAs (r source : Remote) : MatchClass → Type 0 where
  by_both : r.address ≡ source.address → r.port ≡ source.port → MatchesAs r source both
  by_address : r.address ≡ source.address → r.port ≡ 0 → MatchesAs r source any-port
  by_port : r.address ≡ 0 → r.port ≡ source.port → MatchesAs r source any-address
  by_neither : r.address ≡ 0 → r.port ≡ 0 → MatchesAs r source neither

-- R7.3: a mode in which a member counts: for a datagram (accept false) reconnect or online, for an accept reconnect alone
pub data CountsIn : Bool → Mode → Type 0 where
  in_reconnect : (accept : Bool) → CountsIn accept Reconnect
  in_online : CountsIn false Online

module _ (l : Lent) (accept : Bool) (group : ℕ) (source : Remote) where
  -- connection i is a member of the group that counts, and matches as this class
  pub record Matching (i : ℕ) (class : MatchClass) : Type 0 where
    pub there : i < rows_of l.image Connections
    pub its : (connection_of l.image i).group ≡ group
    pub counts : CountsIn accept (record_at l.state i).mode
    pub stays : (record_at l.state i).close_wanted ≡ false
    pub matches : MatchesAs (record_at l.state i).remote source class

  -- R7.5: connection k matches, none matches better, and none with a lower number as well
  pub record BestMatch (k : ℕ) : Type 0 where
    pub class : MatchClass
    pub matching : Matching k class
    pub best : (i : ℕ) (x : MatchClass) → Matching i x → class_place class ≤ class_place x
    pub lowest : (i : ℕ) (x : MatchClass) → Matching i x → i < k → class_place class < class_place x

  -- R7.1, R7.2: a group of the right protocol (UDP, 1, for a datagram; TCP, 2, for an accept), and a source without wildcard
  abbrev pub GroupFor : Bool → ℕ → Type 0
  GroupFor false protocol = protocol ≡ 1
  GroupFor true protocol = protocol ≡ 2

  pub record Welcome : Type 0 where
    pub protocol : GroupFor accept (group_of l.image group).protocol
    pub address : source.address ≡ 0 → ⊥
    pub port : source.port ≡ 0 → ⊥

  -- WHEN EACH ANSWER IS GIVEN: 11 or 12 by the gate; 2; 3; 10; or the best match
  pub data Arrives : Result ℕ NotMet → Type 0 where
    shut : (r : Refusal) → gate_of l ≡ Err r → Arrives (Err (Refused r))
    no_group : gate_of l ≡ Ok tt → rows_of l.image Group ≤ group → Arrives (Err (Refused Missing))
    not_welcome : gate_of l ≡ Ok tt → group < rows_of l.image Group → (Welcome → ⊥) → Arrives (Err (Refused Denied))
    none_matches : gate_of l ≡ Ok tt → group < rows_of l.image Group → Welcome → ((i : ℕ) (x : MatchClass) → Matching i x → ⊥) → Arrives (Err Unmatched)
    meets : (k : ℕ) → gate_of l ≡ Ok tt → group < rows_of l.image Group → Welcome → BestMatch k → Arrives (Ok k)
