-- The world of connections with their held bytes, the events, and one step.
pub mod World
pub mod Events
pub mod Step
