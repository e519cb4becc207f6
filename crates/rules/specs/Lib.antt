-- What the contracts of `rules` cite: the rules for the eight kinds, what each word of a record earns, what a record must be.
pub mod Rules
pub mod Codes
pub mod Fault
pub mod Judge
pub mod Sound
