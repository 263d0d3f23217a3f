-- What the crate's own proofs cite.
mod Common
mod Room
mod Again
mod StatementAgain
mod Turns
mod GapLists
