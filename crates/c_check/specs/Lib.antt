pub mod Places
pub mod Broken
pub mod Refusals
