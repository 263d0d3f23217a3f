-- What a journal is, its text, and which texts are journals
pub mod Texts
pub mod Recording
pub mod Reading
pub mod Fitting
pub mod Modules
-- Hosts that reply again what a journal says
pub mod Replaying
pub mod Replayed
-- Runs that hosts have answered
pub mod Runs
-- Which journals can be written
pub mod Writable
-- A journal for closed cases
pub mod Samples
-- What the code keeps
pub mod Knowing
pub mod NewFunctions
pub mod Giving
