pub mod Step
pub mod Grow
