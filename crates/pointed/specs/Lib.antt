-- What the calls of the kinds with a pointer earn and do.
pub mod Call
pub mod Inner
pub mod Places
