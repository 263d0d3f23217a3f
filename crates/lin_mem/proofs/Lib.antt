-- What the crate's own proofs cite.
mod Common
mod Full
mod Numbers
mod Pages
mod Straddles
mod CellRows
mod Sharing
