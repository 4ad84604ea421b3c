pub mod Arrivals
pub mod Order
pub mod Tracing
pub mod Searching
pub mod Named
