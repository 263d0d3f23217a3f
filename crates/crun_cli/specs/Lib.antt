-- promised: the run that a command line asks for, with hosts, its lines and its journal, the unit that it asks for, and what the
-- clauses of the top call say
pub mod Runs
pub mod Files
pub mod Outside
pub mod Jobs
pub mod Ends
pub mod Passing
pub mod HonestPassing
pub mod Again
-- and README's run
pub mod Example
-- of the code alone
pub mod Views
pub mod Playing
pub mod Recording
pub mod Stopping
pub mod Trying
