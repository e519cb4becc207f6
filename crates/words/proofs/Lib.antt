-- The laws of the words that bytes make, for the proofs here; the theorems.
pub mod Chunks
pub mod Determined
pub mod Filling
pub mod Kept
