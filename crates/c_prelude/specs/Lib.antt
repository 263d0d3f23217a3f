pub mod Calls
pub mod Operators
pub mod Functions
pub mod Samples
pub mod Statements
