pub mod Aside
pub mod Drafts
pub mod Codes
pub mod ShortFile
pub mod Bodies
