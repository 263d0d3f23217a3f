pub mod Computed
pub mod Reading
pub mod Run
pub mod Shortest
