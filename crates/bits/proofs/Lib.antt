-- The laws that lead from words to bits, for this crate and those above it.
pub mod Determined
pub mod Digits
pub mod Examples
pub mod Laws
pub mod Matrix
pub mod Places
pub mod Tests
