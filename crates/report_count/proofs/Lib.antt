-- Laws of the definitions in specs/, and what loops cite.
pub mod Turns
