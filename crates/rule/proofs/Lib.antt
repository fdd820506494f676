pub mod Zeros
pub mod Rising
pub mod Examples
pub mod Book
