-- What the calls of a block's work answer and leave, and the pointer that a block shows.
pub mod Call
pub mod Inner
pub mod Tasks
