-- What each event changes, as one table.
pub mod Changes
