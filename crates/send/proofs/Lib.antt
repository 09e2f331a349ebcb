-- Laws of the crate.
pub mod Pdu
pub mod Scan
pub mod Store
pub mod Room
pub mod Ends
