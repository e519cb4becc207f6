-- What the contracts of `file` cite: a file as a value, its sections and the verdict on them, the start of its run, what an accepted
-- file is.
pub mod File
pub mod Steps
pub mod Start
pub mod Sound
