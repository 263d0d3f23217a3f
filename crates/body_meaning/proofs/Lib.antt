-- What crates above cite.
pub mod Spaces
pub mod Seen
-- What the crate's own proofs cite.
mod Common
mod Names
mod Before
mod Bodies
mod Branching
mod Bulk
mod Calls
mod Control
mod Exits
mod Function
mod Gives
mod Globals
mod Hosts
mod Indexes
mod Indirect
mod Jumps
mod Locals
mod Memories
mod Numeric
mod Operands
mod Own
mod Past
mod Placed
mod Plain
mod Slots
mod Start
mod There
mod Types
mod Vars
mod Ways
