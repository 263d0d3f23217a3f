-- promised: cited by contracts of what is offered
pub mod Gaps
pub mod Listed
pub mod PackedItems
-- cited by proofs alone
pub mod Packed
pub mod Unpacked
pub mod Statement
pub mod Chunk
