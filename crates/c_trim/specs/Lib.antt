pub mod Trim
pub mod Marks
pub mod Runs
pub mod Samples
