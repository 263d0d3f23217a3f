-- What crates above cite.
pub mod Offers
pub mod Runs
-- What the crate's own proofs cite.
mod Common
mod Called
mod Lasts
mod Replies
