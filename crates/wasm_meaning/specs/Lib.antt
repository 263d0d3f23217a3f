pub mod Execution
pub mod LinkedSet
pub mod Memories
pub mod Operators
pub mod Run
pub mod Samples
pub mod Store
