-- When a transmit gets each answer.
pub mod Exactly
