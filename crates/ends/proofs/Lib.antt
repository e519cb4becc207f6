-- The theorems about the first line, the last line and the line of a refusal.
pub mod Determined
