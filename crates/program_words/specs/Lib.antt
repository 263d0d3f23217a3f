-- what the command lines of the programs have in common: promised
pub mod Command
pub mod Tests
-- of the code alone
pub mod Writing
