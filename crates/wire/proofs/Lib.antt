-- Laws of readers (Join, Part), of bytes laid over others (Lay), of writers and the round trip (Spell), and of the test for room (Room); facts under the
-- names of clauses (Clauses).
pub mod Join
pub mod Lay
pub mod Spell
pub mod Part
pub mod Room
pub mod Place
pub mod Clauses
