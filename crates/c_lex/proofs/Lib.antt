-- What the crate's own proofs cite.
mod Common
mod Runs
mod Scanned
mod Digits
mod Words
mod Seen
