-- The kinds of events, and an example of each number that each of them can be answered with.
pub mod Reached
