pub mod Parts
pub mod Refused
pub mod First
