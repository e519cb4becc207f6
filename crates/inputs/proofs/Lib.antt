-- The laws of inputs; that the contract decides its answer.
pub mod Determined
pub mod Wired
