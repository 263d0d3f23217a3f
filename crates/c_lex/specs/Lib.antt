pub mod Fixed
pub mod Front
pub mod Cursor
pub mod Reading
