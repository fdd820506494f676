pub mod Shape
pub mod Level
pub mod Child
pub mod Sets
pub mod Growth
