pub mod Answers
pub mod Stretches
pub mod Spellings
pub mod Rescues
pub mod Passings
