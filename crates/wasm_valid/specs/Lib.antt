-- promised: cited by contracts of what is offered
pub mod FileVerdict
-- of the code and the proofs alone
pub mod Entered
pub mod EnteredBodies
pub mod Expressions
pub mod SaysVerdict
