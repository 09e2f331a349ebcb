-- WHEN EACH DECISION ON A HEADER IS GIVEN (R5.5).
use Rattle.std.specs.Prelude.{ℕ, ◌<◌, ◌≤◌, ◌≡◌, Bool, true, false, List}
use Rattle.reading.specs.declared.DropReason.TheVariants.{NoRoute, SwitchedOff, TooLong}
use Rattle.reading.specs.declared.Decision.{Decision}
use Rattle.reading.specs.declared.Decision.TheVariants.{Accept, Refuse, Transfer}
use Rattle.switches.specs.Switches.{is_on}
use Rattle.table_rows.specs.Rows.{route_in}
use Rattle.receive_route.specs.Route.{rows_in}

-- R5.2: row r is there, it is the connection's, and it has the header's id
pub record Bears (routes : List ℕ) (connection id r : ℕ) : Type 0 where
  pub there : r < rows_in routes
  pub owned : (route_in routes r).connection ≡ connection
  pub named : (route_in routes r).id ≡ id

-- a header of this id and length n, on a connection with these switches
module _ (routes : List ℕ) (connection switches id n : ℕ) where
  -- a row of the id that is on, is not marked and allows the length
  pub record Allows (r : ℕ) : Type 0 where
    pub bears : Bears routes connection id r
    pub on : is_on (route_in routes r).groups switches ≡ true
    pub unmarked : (route_in routes r).transfer ≡ false
    pub fits : n ≤ (route_in routes r).longest

  -- R19.1: a row of the id that is on and marked, of whatever length
  pub record Carries (r : ℕ) : Type 0 where
    pub bears : Bears routes connection id r
    pub on : is_on (route_in routes r).groups switches ≡ true
    pub marked : (route_in routes r).transfer ≡ true

  -- a row of the id that is on and is not marked, and the length is longer than it allows
  pub record Exceeds (r : ℕ) : Type 0 where
    pub bears : Bears routes connection id r
    pub on : is_on (route_in routes r).groups switches ≡ true
    pub unmarked : (route_in routes r).transfer ≡ false
    pub long : (route_in routes r).longest < n

  -- R5.5: 20 no route, 21 switched off, 22 longer than allowed; R19.1: 22 is never given for a marked row
  pub data Decided : Decision → Type 0 where
    allowing : (r : ℕ) → Allows r → Decided (Accept r)
    carrying : (r : ℕ) → Carries r → Decided (Transfer r)
    no_route : ((r : ℕ) → Bears routes connection id r → ⊥) → Decided (Refuse NoRoute)
    off : (r : ℕ) → Bears routes connection id r → is_on (route_in routes r).groups switches ≡ false → Decided (Refuse SwitchedOff)
    too_long : (r : ℕ) → Exceeds r → Decided (Refuse TooLong)

-- R1.9: no two receive routes share connection and id, of a body of routes
abbrev pub Alone : List ℕ → Type 0
Alone routes =
    (i j : ℕ) → i < j → j < rows_in routes → (route_in routes i).connection ≡ (route_in routes j).connection → (route_in routes i).id
    ≡ (route_in routes j).id → ⊥

-- R19.1: every marked route is on a connection that is TCP, of a body of routes
abbrev pub MarkedTcp : List ℕ → (ℕ → Bool) → Type 0
MarkedTcp routes tcp = (r : ℕ) → r < rows_in routes → (route_in routes r).transfer ≡ true → tcp (route_in routes r).connection ≡ true
