-- What crates above cite.
pub mod AcceptedLimits
pub mod Instantiable
pub mod Found
pub mod Defined
pub mod Pairs
pub mod SectionLists
pub mod Sections
pub mod BodiesAt
pub mod KnownNames
pub mod Knowledge
pub mod PointerTypes
pub mod Parted
pub mod Wholes
-- What the crate's own proofs cite.
mod Common
