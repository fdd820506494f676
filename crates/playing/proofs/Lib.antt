pub mod More
pub mod Read
pub mod Kept
pub mod Example
