pub mod Played
pub mod Book
pub mod Kept
