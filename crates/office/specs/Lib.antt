pub mod Days
pub mod Faults
pub mod Kinds
pub mod Requests
pub mod Texts
