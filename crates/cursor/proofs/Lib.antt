pub mod Stepped
pub mod Head
