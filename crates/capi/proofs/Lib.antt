pub mod Counts
pub mod Unique
pub mod KindOrder
pub mod Padded
pub mod Mapped
pub mod Called
