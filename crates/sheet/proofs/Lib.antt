-- Laws of the definitions in specs/, and what loops cite.
pub mod Lit
pub mod Pairs
pub mod Joins
pub mod Turns
pub mod Kept
