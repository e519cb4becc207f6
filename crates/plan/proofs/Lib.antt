-- The laws of plans; that the contract decides its answer.
pub mod Determined
pub mod Filling
pub mod Plans
pub mod Seeing
pub mod Spots
pub mod Starts
