pub mod Pushed
pub mod Written
