pub mod Steps
pub mod Journeys
pub mod Aboard
pub mod Checked
