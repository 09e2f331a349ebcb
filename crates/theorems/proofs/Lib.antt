-- The demands: 1 (Refusals, Refused, Numbers, Single), 2 (Waiting from Empties, Trip from Walking), 3 (Three from Runs, Ends), pieces of transfers
-- (Pieces); uniqueness (Unique).
pub mod Runs
pub mod Refused
pub mod Refusals
pub mod Numbers
pub mod Single
pub mod Empties
pub mod Waiting
pub mod Walking
pub mod Trip
pub mod Ends
pub mod Streams
pub mod Three
pub mod Pieces
pub mod Transfers
