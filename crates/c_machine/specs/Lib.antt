pub mod Names
pub mod NumberedNames
pub mod Scope
pub mod Tables
pub mod Threads
