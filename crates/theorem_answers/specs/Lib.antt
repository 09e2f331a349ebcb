-- The checks of an event in their order.
pub mod When
