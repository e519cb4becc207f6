-- What the contracts of `words` cite: the words that bytes make.
pub mod Words
