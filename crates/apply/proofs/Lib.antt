pub mod Down
pub mod OneFlag
