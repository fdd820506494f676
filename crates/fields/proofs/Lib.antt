pub mod Fields
mod Places
