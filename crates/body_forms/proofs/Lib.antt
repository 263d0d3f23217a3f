-- What the crate's own proofs cite.
mod Common
mod Parameters
