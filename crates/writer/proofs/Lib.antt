pub mod Stores
pub mod Penned
pub mod Sizes
pub mod Fitting
pub mod LayingOut
pub mod ShortLayouts
pub mod Judging
pub mod Unique
