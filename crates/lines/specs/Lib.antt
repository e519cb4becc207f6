-- What the contracts of `lines` cite: a line by the form of its tail.
pub mod Tail
