-- what the words say, what a script is, and what it says: promised
pub mod CommandLine
pub mod Commands
pub mod Values
pub mod Forms
pub mod Scripts
pub mod Lists
pub mod Lines
-- what the code keeps, without where it lies in memory
pub mod Seen
-- for closed cases
pub mod Samples
