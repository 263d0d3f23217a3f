-- promised: cited by contracts of what is offered
pub mod Symbols
pub mod Reached
pub mod Typed
pub mod Named
pub mod Usable
pub mod Objects
pub mod Spaces
pub mod FewParams
-- of the code and the proofs alone
pub mod Found
