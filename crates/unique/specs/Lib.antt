pub mod Node
pub mod Search
