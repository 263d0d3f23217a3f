pub mod Lists
pub mod Expressions
pub mod Types
pub mod Arguments
pub mod Statements
pub mod Items
