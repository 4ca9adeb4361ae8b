pub mod Writes
pub mod Layouts
pub mod Pens
