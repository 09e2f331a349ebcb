-- The laws of reading by lengths.
pub mod Bytes
pub mod Heads
pub mod Splits
pub mod Marks
pub mod Ready
pub mod Reading
