-- promised: cited by the law
pub mod Tasks
pub mod Zeros
pub mod Owners
pub mod ReachedFuncs
pub mod Taken
pub mod Declared
pub mod Parts
pub mod InitFollows
