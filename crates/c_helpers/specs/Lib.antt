pub mod Pieces
pub mod Rows
pub mod Helpers
pub mod Bodies
pub mod Translated
pub mod Ways
pub mod Steps
pub mod Needed
-- statements by hand, for closed cases alone
pub mod Samples
-- of the code and the proofs alone
pub mod Numbers
pub mod Called
