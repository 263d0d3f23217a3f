-- What crates above cite.
pub mod Verdicts
pub mod Files
-- What the crate's own proofs cite.
mod Common
mod Entered
mod ModuleRows
mod Names
mod Shapes
mod EnteredBodies
mod Refusals
