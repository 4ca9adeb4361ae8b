pub mod Orders
pub mod BigBytes
pub mod Kept
pub mod Judged
pub mod Admitted
pub mod Collected
pub mod Unique
