pub mod Linear
pub mod Lends
pub mod Ownership
pub mod Places
