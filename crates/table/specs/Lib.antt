-- What the contracts of `table` cite: the table's areas and references, and what sizes and references must be.
pub mod Table
pub mod Area
pub mod Sound
