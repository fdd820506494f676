pub mod Halves
pub mod Answer
