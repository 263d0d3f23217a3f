-- What crates above cite.
pub mod Held
pub mod OwnObjects
-- What the crate's own proofs cite.
mod Common
mod InitStatements
mod InitRuns
mod Entries
mod InitObjects
mod InitConstants
mod InitTests
mod LimitTests
mod TakeTasks
mod AllTaken
mod MakeTasks
mod Surroundings
mod SegmentTests
mod ElementWrites
mod DataWrites
mod StartTasks
mod InitLabels
mod FirstVars
mod PartCalls
mod PartRows
mod PartStages
mod PartLabels
mod PartKinds
mod CallingStmts
mod Tasks
