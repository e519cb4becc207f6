-- The laws of the definitions.
pub mod Determined
pub mod Limits
pub mod Records
pub mod Sections
pub mod Walk
pub mod Words
pub mod Reaching
