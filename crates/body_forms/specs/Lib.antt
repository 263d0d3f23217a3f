-- promised: cited by contracts of what is offered
pub mod Names
pub mod Slots
pub mod Branches
pub mod Variables
pub mod Frame
