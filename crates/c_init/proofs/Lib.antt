-- What crates above cite.
pub mod Small
pub mod Numberings
pub mod Countable
pub mod Fits
pub mod InitLabelsDiffer
pub mod NoFaults
pub mod PieceCounts
pub mod FewParts
pub mod PartsOf
-- What the crate's own proofs cite.
mod Common
mod Counts
mod Takes
mod ByteLoops
mod Constants
mod Somes
mod FuncNames
mod LookUps
mod InitParts
mod Calls
mod PieceLists
mod PortionTests
