pub mod Puts
pub mod Digits
pub mod Blanks
