-- The PDUs that wait, by their age.
pub mod Timer
