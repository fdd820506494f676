pub mod Numbers
pub mod Behind
pub mod Drawn
pub mod Taken
pub mod Printed
