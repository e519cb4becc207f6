-- What the contracts of `network` cite: a network as a value, the verdict on its words, what a network must be.
pub mod Network
pub mod Check
pub mod Steps
pub mod Sound
