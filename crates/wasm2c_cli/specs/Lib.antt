-- promised: what the words ask for, the lines, and what the clauses of the top call say
pub mod Plan
pub mod Reasons
pub mod Runtime
pub mod Job
pub mod Lines
pub mod Units
pub mod Stops
pub mod Top
pub mod Passing
pub mod HonestPassing
-- and README's first module, with what they come to
pub mod Example
-- of the code alone
pub mod Parts
pub mod PartsPassing
