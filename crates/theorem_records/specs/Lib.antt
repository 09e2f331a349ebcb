-- What events leave of a record, and when they are allowed.
pub mod Records
pub mod Allowed
pub mod Untouched
