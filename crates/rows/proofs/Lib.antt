mod Shared
pub mod Tables
