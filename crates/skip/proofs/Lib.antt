pub mod Passing
pub mod Turns
pub mod Unique
