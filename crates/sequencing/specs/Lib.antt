pub mod Word
pub mod Children
pub mod Level
pub mod Move
