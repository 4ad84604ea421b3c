pub mod Legs
pub mod Words
pub mod Names
pub mod Refusals
pub mod Check
pub mod Sound
pub mod Keys
