-- The laws of the definitions.
pub mod Determined
pub mod Laws
pub mod Tested
