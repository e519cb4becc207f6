-- The laws of the kinds with a pointer: their refusals, a compare, a bit at a pointer, a bit or a word stored; that a contract decides its
-- answer, and a refusal changes nothing.
pub mod Comparing
pub mod Determined
pub mod Kept
pub mod Stepping
pub mod Refusing
pub mod Stored
