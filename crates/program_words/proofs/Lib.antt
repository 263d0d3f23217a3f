-- What crates above cite.
pub mod Parses
pub mod Written
pub mod Loops
