-- The laws of the pointer's steps, for the proofs here and in the crates above.
pub mod Determined
pub mod Pointers
