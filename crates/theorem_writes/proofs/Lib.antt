-- What a call writes: bytes laid over others, one take, all takes of a segment, a transmit, any event; and in whose stretch.
pub mod Laid
pub mod Take
pub mod Segment
pub mod Transmit
pub mod Writes
pub mod Inside
