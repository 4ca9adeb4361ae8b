pub mod Answers
pub mod Collecting
pub mod Searches
pub mod Slots
pub mod Files
