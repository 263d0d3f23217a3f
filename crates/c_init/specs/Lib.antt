-- promised: cited by contracts of what is offered
pub mod Init
pub mod Sources
pub mod Entries
-- of the code and the proofs alone
pub mod InitParts
pub mod Portions
pub mod Single
pub mod SetPointers
pub mod Loops
pub mod Fitting
pub mod Instantiable
