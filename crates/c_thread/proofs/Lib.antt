-- What the crate's own proofs cite.
mod Common
mod Acts
mod Asks
mod Assigns
mod Begins
mod Params
mod Returns
mod SameTypes
mod Seen
mod Sights
mod Stars
mod Units
mod Ways
