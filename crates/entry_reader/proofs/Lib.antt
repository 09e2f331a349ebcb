-- Laws of the reader.
pub mod Payload
pub mod Stepping
