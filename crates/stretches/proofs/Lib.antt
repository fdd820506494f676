pub mod Fill
pub mod Parts
pub mod Stretches
pub mod Starting
