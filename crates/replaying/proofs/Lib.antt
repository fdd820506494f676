pub mod Tested
pub mod Tallied
pub mod Answer
