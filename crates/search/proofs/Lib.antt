-- The laws of the search, for the proofs here and in the crates above; what its answer means.
pub mod Answers
pub mod Determined
pub mod Finding
pub mod Searching
pub mod Sought
