-- what the words say: promised
pub mod CommandLine
pub mod Command
pub mod Names
pub mod SetFiles
-- what the code keeps, without where it lies in memory
pub mod Seen
