pub mod Passing
pub mod Seeking
