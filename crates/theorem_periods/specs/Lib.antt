-- The end of an online period.
pub mod Periods
