pub mod Cuts
pub mod Iterators
pub mod Text
pub mod Views
pub mod Writing
