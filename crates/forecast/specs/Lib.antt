pub mod Hours
pub mod Checking
pub mod Answers
