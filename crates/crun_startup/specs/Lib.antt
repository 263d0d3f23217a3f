-- The public contracts cite these.
pub mod Names
pub mod Entries
pub mod Called
pub mod Inits
-- Those of the crate's own functions, and proofs, cite these, too.
pub mod Objects
pub mod Units
