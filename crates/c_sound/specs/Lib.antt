pub mod Events
pub mod NeverStuck
pub mod Samples
pub mod Typed
