pub mod Reserved
pub mod Specimens
pub mod Sentences
pub mod ListingExample
pub mod ContentsExamples
