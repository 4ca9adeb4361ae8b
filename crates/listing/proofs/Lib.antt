pub mod Lines
pub mod Counting
pub mod Reading
pub mod Answer
pub mod Unique
