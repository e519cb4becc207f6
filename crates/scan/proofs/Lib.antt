-- The laws of the definitions, those that join the code to them, and what is true of a scan.
pub mod Blocks
pub mod Coils
pub mod Determined
pub mod Examples
pub mod Kept
pub mod Packing
pub mod Locating
pub mod Repeating
pub mod Scanning
pub mod Own
pub mod Verdicts
pub mod Walking
