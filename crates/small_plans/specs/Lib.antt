pub mod Words
pub mod Piers
pub mod Marks
pub mod Tried
