-- What a block does to a table: what it reads, what its kind's rule makes of it, what it writes, what a call
-- that does it answers, its outputs as one number; then what is true of it.
pub mod Kind
pub mod View
pub mod Effect
pub mod Work
pub mod Answer
pub mod Packed
pub mod Truths
