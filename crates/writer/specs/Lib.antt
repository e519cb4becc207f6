-- What the contract of `writer` cites, and the round trips between reader and writer.
pub mod Writer
pub mod RoundTrips
