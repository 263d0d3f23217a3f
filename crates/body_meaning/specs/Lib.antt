-- promised: cited by contracts of what is offered
pub mod Agree
pub mod Serves
pub mod Bodies
-- of the proofs alone
pub mod Follows
pub mod Parts
