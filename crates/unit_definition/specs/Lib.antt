-- promised: cited by contracts of what is offered
pub mod Exports
pub mod Items
pub mod Accepted
pub mod Arrays
pub mod Tails
-- modules and their units by hand, for closed cases alone
pub mod Samples
pub mod EveryKindAgain
pub mod LinkerModule
