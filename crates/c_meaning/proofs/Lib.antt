-- What crates above cite.
pub mod InitSymbols
pub mod Links
pub mod Longer
pub mod Lookups
pub mod OnTheWay
pub mod Ways
pub mod Goes
pub mod Fronts
pub mod StepsKeep
pub mod Told
pub mod Takes
-- What the crate's own proofs cite.
mod Common
