pub mod Walk
pub mod Pass
