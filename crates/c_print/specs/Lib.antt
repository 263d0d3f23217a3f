pub mod Print
pub mod ItemText
pub mod Page
pub mod Header
pub mod ToFile
