-- The table holds, and what follows for each event.
pub mod Changes
