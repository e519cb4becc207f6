-- The laws of the definitions.
pub mod Determined
pub mod Kept
pub mod RoundTrips
pub mod Writing
