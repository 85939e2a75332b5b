pub mod Parts
pub mod Splits
pub mod Written
