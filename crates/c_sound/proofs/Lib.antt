-- What crates above cite.
pub mod Choices
pub mod Lists
pub mod Changes
pub mod Runs
pub mod Kept
pub mod Defined
pub mod Units
pub mod Trails
pub mod Tells
-- What the crate's own proofs cite.
mod Common
mod Evaluates
mod Arguments
mod Primitives
mod Assigns
mod Calls
mod Statements
mod Scopes
mod Starts
mod Sound
