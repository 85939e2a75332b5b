pub mod Answers
pub mod Faults
pub mod Marks
pub mod Plan
pub mod Printed
pub mod States
