-- promised: cited by contracts of what is offered
pub mod Stack
pub mod Labels
pub mod Plain
pub mod Code
pub mod Body
pub mod Needs
pub mod Limits
-- modules by hand, for closed cases alone
pub mod Samples
