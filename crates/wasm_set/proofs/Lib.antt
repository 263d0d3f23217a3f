-- What the crate's own proofs cite.
mod Common
mod Pairs
mod EqualTypes
mod Stands
mod Instances
mod Resolving
mod Extending
mod Joins
mod Calls
mod Entering
mod Found
