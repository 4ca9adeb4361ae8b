pub mod Payloads
pub mod Values
pub mod Unique
pub mod Walks
