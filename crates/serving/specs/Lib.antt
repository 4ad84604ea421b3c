pub mod Kept
pub mod Offices
pub mod Responses
pub mod Runs
