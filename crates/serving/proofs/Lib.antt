pub mod Fronts
pub mod Chained
pub mod Itineraries
pub mod Alike
pub mod Runs
pub mod Updating
