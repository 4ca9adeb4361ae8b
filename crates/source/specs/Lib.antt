pub mod Reads
pub mod Window
pub mod Answers
pub mod Good
pub mod Binary
pub mod Runs
