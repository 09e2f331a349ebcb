-- Answer numbers of events and runs, calls in any order, any run by its gate, what events make of waiting bytes, the sides of the round
-- trip, what ends an online period, and the statement of demand 3.
pub mod Numbers
pub mod Order
pub mod Waits
pub mod Ends
pub mod Streams
pub mod Refused
pub mod Three
pub mod Trip
pub mod Transfers
