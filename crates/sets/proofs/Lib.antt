pub mod Size
pub mod Rising
pub mod Sequence
