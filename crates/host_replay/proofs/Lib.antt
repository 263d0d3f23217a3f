-- What the proofs of this crate cite from elsewhere
mod Common
-- Journals: their texts, and what lines say
mod Chains
pub mod Distinct
pub mod Apart
mod Known
mod Lasts
mod Lines
mod Numbers
mod Same
mod Sampled
mod Spelled
mod Steps
mod Symbols
pub mod Verdicts
-- Hosts that reply again
pub mod Given
mod Replays
-- Runs with other replies, of the meaning of C alone
mod AnyTrail
mod Answering
mod Beside
mod Parting
mod Tellings
-- Runs that hosts have answered
pub mod Again
pub mod Fits
mod Used
