-- What crates above cite.
pub mod Formed
-- What the crate's own proofs cite.
mod Common
mod Numbers
mod TypedAgain
mod Lists
mod Valid
mod ShortestBytes
mod Bytes
mod OnlyOne
mod Within
mod Files
mod ShortPieces
mod Samples
