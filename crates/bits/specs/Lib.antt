-- What the contracts of `bits` cite: the numbering of bits and the words that they make.
pub mod Bit
pub mod Word
