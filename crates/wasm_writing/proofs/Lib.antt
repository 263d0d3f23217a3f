-- What crates above cite.
pub mod PartLemmas
pub mod Whole
-- What the crate's own proofs cite.
mod Common
mod Pieces
mod Lists
mod Codes
mod Shorts
mod Windows
mod BodyLemmas
mod Fills
mod FillsCode
mod FillsEntries
mod Both
mod BothEntries
mod Aside
mod PlacedModule
mod BothModules
