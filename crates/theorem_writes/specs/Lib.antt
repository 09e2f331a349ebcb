-- The places of lent memory that an event writes.
pub mod Writes
