-- What the contracts of `runs` cite: runs of words and their refusals.
pub mod Run
