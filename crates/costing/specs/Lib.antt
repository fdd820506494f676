pub mod Ready
pub mod Choice
