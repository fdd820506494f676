pub mod Counts
pub mod Printed
