-- What the contracts of `record` cite: a block's record and its 15 words.
pub mod Record
