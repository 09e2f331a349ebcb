-- Laws of the definitions in specs/.
pub mod Both
pub mod Search
pub mod Each
pub mod Fold
