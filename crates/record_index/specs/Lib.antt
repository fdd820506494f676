pub mod Index
pub mod Find
