-- What the proofs of this crate cite from elsewhere
mod Common
-- what lines ask for
pub mod WriteJobs
-- why a unit is not written
mod WriteStops
-- what passes through the files
pub mod Passing
