-- The laws of the definitions.
pub mod Determined
pub mod Good
pub mod Parts
pub mod References
pub mod Areas
