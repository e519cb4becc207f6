-- The laws of the definitions.
pub mod Said
pub mod Determined
