-- What the contracts of `search` cite: the search, and what its answer means.
pub mod Search
pub mod Inner
