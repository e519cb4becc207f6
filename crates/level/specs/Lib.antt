-- What the contracts of `level` cite: the levels and the limits that go by them.
pub mod Level
