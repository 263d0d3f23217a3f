-- What crates above cite.
pub mod NameTables
pub mod Arguments
pub mod Variables
pub mod Jumps
pub mod Locals
pub mod Functions
pub mod Begins
-- What the crate's own proofs cite.
mod Common
mod FewNames
mod Labels
mod Tabled
