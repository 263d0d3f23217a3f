-- What crates above cite.
pub mod ByKind
pub mod FewParams
pub mod Made
-- What the crate's own proofs cite.
mod Common
mod SameTypes
mod Founds
mod Reaches
mod LookedUp
