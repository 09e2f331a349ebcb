-- The world of an image, and the machine that the entry points make.
pub mod Table
pub mod Send
pub mod Whole
pub mod Machine
pub mod Run
