-- What the contracts of `matrix` cite: what is done to the runs of words of a table.
pub mod Inner
pub mod Logic
pub mod Move
pub mod Single
