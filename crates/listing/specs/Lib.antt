pub mod Answers
pub mod Tallies
pub mod Words
