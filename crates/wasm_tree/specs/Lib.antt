pub mod Accesses
pub mod Appended
pub mod InstructionTable
pub mod Forms
pub mod IndexSpaces
pub mod NamedModule
pub mod Instructions
pub mod Falls
pub mod Size
pub mod Stored
pub mod Views
pub mod Parts
-- of the bytes of a file and of the limits, as far as trees tell them
pub mod Bytes
pub mod Limits
pub mod Within
-- code and modules by hand, for closed cases alone
pub mod Samples
