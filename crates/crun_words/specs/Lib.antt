-- what the words say, what files they name, and what the lines of a calls file say: promised
pub mod Numbers
pub mod Command
pub mod CommandLine
pub mod Inputs
pub mod Passing
pub mod CallsFile
pub mod CallLine
pub mod Arguments
-- what the code keeps, without where it lies in memory
pub mod Seen
