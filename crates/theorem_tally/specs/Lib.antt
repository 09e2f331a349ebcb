-- What the theorems speak of.
pub mod Items
pub mod Tally
