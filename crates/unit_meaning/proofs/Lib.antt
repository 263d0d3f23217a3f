-- What crates above cite.
pub mod Linked
pub mod External
pub mod Funcs
pub mod Stands
-- What the crate's own proofs cite.
mod Common
mod Linking
mod Wrapper
mod Accessor
mod Instances
mod HostSymbols
mod Usable
mod Pointers
mod Globals
mod Accessors
mod Program
mod Inits
mod StillDeclared
mod Declared
mod Owners
mod Known
mod Reached
mod TypesStay
mod MakesOwn
mod Untouched
mod Start
mod Plans
mod Listed
mod Pairing
mod Whole
mod Instantiated
