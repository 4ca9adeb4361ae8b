pub mod Words
pub mod Sign
pub mod Pending
pub mod Unique
