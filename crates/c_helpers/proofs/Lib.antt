-- What crates above cite.
pub mod CodeLists
-- What the crate's own proofs cite.
mod Common
mod Accesses
mod Whole
mod CalledHelpers
mod HelperNumbers
mod Patterns
mod StepOfKind
