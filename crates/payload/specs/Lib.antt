pub mod Answers
pub mod Compact
pub mod Colour
pub mod Texts
