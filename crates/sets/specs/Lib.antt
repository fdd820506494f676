pub mod Sequence
pub mod Post
