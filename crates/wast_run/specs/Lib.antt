-- promised: the report on a script, what a command line asks for, what the clauses of the top call say, and what passes through files
pub mod Runs
pub mod Report
pub mod Parts
pub mod Jobs
pub mod Passing
-- and a worked script
pub mod Example
-- a module and a call of it, written by hand, for closed cases alone
pub mod Samples
-- of the code alone
pub mod Stopping
pub mod Judging
pub mod Joined
pub mod Stages
pub mod Telling
pub mod Ran
pub mod Reading
