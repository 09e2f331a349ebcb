-- Laws of the searches.
pub mod Rows
pub mod Agree
pub mod Marks
pub mod Sizes
