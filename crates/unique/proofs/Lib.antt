pub mod Extend
pub mod Search
pub mod Branches
pub mod Settled
