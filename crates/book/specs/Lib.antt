pub mod Checks
pub mod Memory
pub mod Reading
pub mod Views
