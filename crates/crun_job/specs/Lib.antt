-- what a command line asks for, and the line that says why it is refused: promised
pub mod Job
pub mod Texts
pub mod Links
pub mod Calls
pub mod Lines
pub mod Each
-- what the code keeps, and what its refusals say
pub mod Seen
pub mod Refusals
pub mod Stopping
