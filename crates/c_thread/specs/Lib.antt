pub mod FuncTypes
pub mod Linked
pub mod Sights
