pub mod View
pub mod Opcodes
pub mod Enders
pub mod Windows
pub mod Sections
