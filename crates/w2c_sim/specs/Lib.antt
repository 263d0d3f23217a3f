-- promised
pub mod Translation
pub mod Refusals
pub mod Selections
