-- The laws of the kinds that work on whole matrices; numbers of kinds; a block's work and pointer by its kind's number; that a block of
-- a checked network is not refused; that a contract decides its answer, and a refusal changes nothing.
pub mod ByKind
pub mod Checked
pub mod Determined
pub mod Kept
pub mod Numbers
pub mod Places
pub mod Wholes
