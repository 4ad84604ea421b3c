pub mod Known
pub mod Delays
pub mod StillUsable
pub mod Done
pub mod Names
pub mod Said
