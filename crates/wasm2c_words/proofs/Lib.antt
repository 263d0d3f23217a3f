-- What crates above cite.
pub mod HeaderName
pub mod SetFiles
-- What the crate's own proofs cite.
mod Common
mod Counts
mod Mapped
mod ModuleName
