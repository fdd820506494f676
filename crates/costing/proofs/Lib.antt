pub mod Ready
pub mod Choices
