-- Reading by lengths: what stands at the front of bytes, the split, and the list of a stream.
pub mod Head
pub mod Split
pub mod Listed
