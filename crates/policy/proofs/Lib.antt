pub mod Fairness
pub mod Keeping
pub mod Rounds
pub mod Runs
