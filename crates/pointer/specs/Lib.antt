-- What the contracts of `pointer` cite: the pointer's steps.
pub mod Pointer
