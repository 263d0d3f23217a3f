-- What the crate's own proofs cite.
mod Common
mod Behind
mod DistinctNumbers
mod Labels
mod Sets
