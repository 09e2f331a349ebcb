-- Laws: one test after another (Asks), the earlier row that a row shares with (Shares), what is told of a row (Rowed),
-- from a place to its row (Ways), the place that a spot names is the check's (Named), what is told is a test that fails
-- (Fails), and input longer than any image (Long).
pub mod Asks
pub mod Shares
pub mod Rowed
pub mod Ways
pub mod Named
pub mod Fails
pub mod Long
