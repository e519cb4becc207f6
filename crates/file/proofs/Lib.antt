-- The laws of the definitions.
pub mod Accepted
pub mod Determined
pub mod Files
pub mod Kept
pub mod Levels
pub mod Longer
pub mod Starts
pub mod Steps
