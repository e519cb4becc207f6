-- What the contracts of `run` cite: a run by visits, what the bench prints, a call that puts some of it, and the calls one after the other.
pub mod Visits
pub mod Bench
pub mod Page
pub mod Calls
pub mod Inner
