pub mod Printed
pub mod Plays
