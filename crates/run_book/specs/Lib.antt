pub mod Spelling
pub mod Worked
pub mod RunLaws
pub mod RunSpelling
