-- Laws of the crate: what passes the gate passes it after a connection event, a switch on all, a count, a tick (Keeps), a datagram or an
-- accept (Arrived), a transmit (Transmitted), a take of waiting bytes (Taken); so does the fresh state (Fresh). A take or walk of received
-- bytes: crate entry_receive, proofs/Keeps.
pub mod Past
pub mod Rows
pub mod Records
pub mod Fresh
pub mod Keeps
pub mod Single
pub mod Arrived
pub mod Transmitted
pub mod Taken
