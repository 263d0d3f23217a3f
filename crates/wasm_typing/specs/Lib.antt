-- promised: what is typed and valid, and the first faults of what is not
pub mod Context
pub mod Typing
pub mod Completion
pub mod BodyFault
pub mod ModuleFaults
pub mod Verdict
pub mod CauseTexts
-- modules and bodies by hand, for closed cases alone
pub mod Samples
