pub mod Updates
pub mod Still
