-- What the contracts of `reader` cite: a reader over lent words.
pub mod Reader
