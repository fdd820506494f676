pub mod FirstLine
pub mod Characters
pub mod Enough
