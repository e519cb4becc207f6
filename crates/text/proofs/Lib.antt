-- The laws of the text of a line, for the proofs here and in the crates above; the theorems.
pub mod Decimal
pub mod Determined
pub mod Labels
pub mod Laying
pub mod Putting
