-- What crates above cite.
pub mod Vectors
pub mod CodeTaken
pub mod Parts
pub mod Sections
pub mod Whole
pub mod WorkedModule
pub mod WithinPlaces
pub mod ByteLists
-- What the crate's own proofs cite.
mod Common
mod Tools
mod Took
mod Runs
mod Readings
mod Leaves
mod Windows
mod Types
mod Forms
mod CodeAgain
mod CodeFollows
mod Entries
mod Counted
mod SectionsAgain
mod Behind
mod WithinCode
mod WithinModule
