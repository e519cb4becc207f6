-- The laws of refusals, and that each contract decides its answer.
pub mod Determined
pub mod Refusals
