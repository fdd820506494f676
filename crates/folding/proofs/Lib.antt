pub mod Folding
pub mod Counted
pub mod Fixed
pub mod LevelBound
pub mod Outside
pub mod RowsAsked
pub mod Codes
