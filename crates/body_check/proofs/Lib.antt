-- What crates above cite.
pub mod FirstFaults
-- What the crate's own proofs cite.
mod Common
mod Exact
mod Completions
mod Piles
mod Needs
mod Steps
mod CodeSizes
mod RunLists
mod RunBlocks
mod ByParts
mod Gathered
