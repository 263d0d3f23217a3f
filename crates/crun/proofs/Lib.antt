-- What crates above cite.
pub mod History
-- What the crate's own proofs cite.
mod Common
mod HostSymbols
mod Functions
mod CallsBehind
mod InitsBehind
mod Beginnings
mod ObjectsSeen
mod Keeping
