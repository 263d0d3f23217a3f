-- The contracts cite all of these.
pub mod Hosts
pub mod Journals
pub mod Asking
pub mod Running
