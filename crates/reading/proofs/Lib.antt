-- The laws of reading a stream.
pub mod Laws
pub mod Cut
pub mod Compared
pub mod Pieces
pub mod Long
pub mod Trip
pub mod Reasons
