-- What crates above cite.
pub mod Once
-- What the crate's own proofs cite.
mod Common
mod Deeper
mod Exact
mod ExactArguments
mod ExactExpressions
mod ExactItems
mod ExactLists
mod ExactStatements
mod ExactTokens
mod Loops
mod Whole
