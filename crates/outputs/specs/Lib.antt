-- A scan's outputs in a lent list of records, and what is true of it.
pub mod Records
pub mod Inner
