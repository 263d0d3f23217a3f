pub mod RunLines
pub mod Words
pub mod CallLines
pub mod HostLines
pub mod StateLines
pub mod NameOrder
pub mod Samples
pub mod Views
