-- The laws of the definitions, for the proofs here and in the crates above; the theorems.
pub mod Combining
pub mod Determined
pub mod Kept
pub mod Moving
pub mod Rewriting
pub mod Runs
pub mod Shifting
pub mod Singles
