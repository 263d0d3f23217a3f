-- What crates above cite.
pub mod BrokenInOrder
pub mod FirstBroken
pub mod Laid
pub mod Names
pub mod NoFault
pub mod OneUnit
pub mod OnlyVoid
pub mod Primitives
pub mod Proper
pub mod SameTypes
pub mod Tested
pub mod TestsTell
pub mod TextIsProper
pub mod TreeIsProper
pub mod TypesInC
pub mod WellFormedUnits
pub mod DeclaredNames
pub mod NameClasses
pub mod NumberedLabels
-- What the crate's own proofs cite.
mod Common
mod Passes
mod PassesExpressions
mod PassesStatements
mod Rows
mod SameExpressions
mod SameLists
mod SameStatements
mod SameWords
