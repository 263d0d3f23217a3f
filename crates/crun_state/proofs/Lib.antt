-- What the proofs of this crate cite from elsewhere
mod Common
-- names by number
mod Named
-- objects by the numbers of their names, and the lines of all units
mod Numbers
mod Shown
