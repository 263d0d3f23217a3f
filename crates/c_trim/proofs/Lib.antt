-- What crates above cite.
pub mod Needed
-- What the crate's own proofs cite.
mod Common
mod Lists
mod RulesHold
mod Named
mod SameScope
mod KeptRules
mod KeptText
mod Programs
mod Distinct
mod Links
mod AlikeRuns
mod Steps
mod Marking
mod Spread
mod Exact
mod InPlace
