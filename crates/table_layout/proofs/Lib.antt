-- Laws of parts, bodies and rows.
pub mod Parts
