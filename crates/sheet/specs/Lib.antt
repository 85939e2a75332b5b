pub mod Printed
pub mod Promises
pub mod Sheet
pub mod Tracks
pub mod Writing
