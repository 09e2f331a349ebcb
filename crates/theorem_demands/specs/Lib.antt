-- The statements of the first and the second demand; that of the third is theorems/specs/Three.
pub mod Demands
