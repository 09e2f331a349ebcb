-- Soundness, and when each number is given, in the words of the rules.
pub mod Rules
pub mod Given
