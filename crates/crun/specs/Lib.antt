-- The public contracts cite these.
pub mod HostSymbols
pub mod Shown
pub mod Engines
pub mod Sessions
