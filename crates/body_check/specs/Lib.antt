-- promised: cited by contracts of what is offered
pub mod Seen
pub mod Checker
pub mod Checked
-- of the code and the proofs alone
pub mod Shown
pub mod Unifies
pub mod Needs
pub mod Plain
pub mod PlainParts
pub mod RanTo
