pub mod Fold
pub mod Codes
pub mod LevelBound
