-- What the contracts of `areas` cite: the first section of a network's words, the sizes of its areas and the level.
pub mod Areas
