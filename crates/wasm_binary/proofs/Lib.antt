-- What the crate's own proofs cite.
mod Common
mod NoWindow
mod Loop
mod Instructions
mod Items
mod Blocks
mod SectionLoop
mod Result
mod Kept
