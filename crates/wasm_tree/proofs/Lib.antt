-- What crates above cite.
pub mod CodeSizes
pub mod ExactTable
pub mod BehindImports
pub mod ImportCounts
-- What the crate's own proofs cite.
mod Common
mod Lists
mod Imports
mod AllOps
