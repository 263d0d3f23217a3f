-- What crates above cite.
pub mod BodyRules
pub mod Classes
pub mod FormedCode
pub mod FormedItems
pub mod OwnNames
pub mod Rules
pub mod RulesOfCode
pub mod RulesOfFunctions
pub mod RulesOfKinds
-- What the crate's own proofs cite.
mod Common
mod Formed
mod ProperBodies
mod RulesOfBodies
