pub mod Fits
pub mod Answered
