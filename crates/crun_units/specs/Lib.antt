-- promised: the unit that a line asks for, what the files hold and count, why it is not written, and what passes through the files
pub mod Jobs
pub mod Files
pub mod Stopping
pub mod Passing
pub mod Trying
-- of the code alone
pub mod Output
