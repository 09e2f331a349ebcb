-- The starred edges through the entry points, and a peer that falls silent.
pub mod Entries
pub mod Silence
