-- The laws of the definitions.
pub mod Accepted
pub mod Determined
pub mod Good
pub mod Networks
pub mod ReadAt
pub mod Steps
pub mod Values
