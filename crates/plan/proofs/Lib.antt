pub mod Parts
pub mod Firsts
pub mod Keys
pub mod Laws
pub mod ReadBack
pub mod LegWords
pub mod Written
pub mod Shuffled
