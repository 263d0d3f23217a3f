-- promised: cited by the laws
pub mod Sets
pub mod Instantiation
