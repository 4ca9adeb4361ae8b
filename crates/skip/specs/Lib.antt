pub mod Skips
pub mod Walks
