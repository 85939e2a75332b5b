pub mod Spelling
pub mod PathSpelling
