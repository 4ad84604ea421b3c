pub mod Decoding
pub mod Chunks
