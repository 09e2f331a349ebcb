-- When each answer is given, in the rules' words.
pub mod Image
pub mod Calls
