-- What the contract of `plan` cites: what a run needs of each block of a network, in numbers.
pub mod Plan
pub mod Seen
