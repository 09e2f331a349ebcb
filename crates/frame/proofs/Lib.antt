-- The laws of framing.
pub mod Laws
