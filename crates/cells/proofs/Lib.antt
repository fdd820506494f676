pub mod Cleared
pub mod Record
pub mod Added
pub mod Fit
pub mod Laid
