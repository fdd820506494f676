pub mod Inserting
pub mod Word
pub mod Gathering
pub mod Numbering
pub mod Moving
pub mod Laying
pub mod Sequenced
