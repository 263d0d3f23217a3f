-- What crates above cite.
pub mod Accepting
pub mod Wiring
-- What the crate's own proofs cite.
mod Common
mod Spelling
mod Choosing
mod Refusing
mod ItemsWritten
