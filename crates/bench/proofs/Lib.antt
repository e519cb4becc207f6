-- What the proofs of the program cite: what a chunk of the input becomes, what reads and writes do to known bytes, and what is printed.
pub mod Known
pub mod Printing
pub mod Reading
