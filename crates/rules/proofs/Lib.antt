-- The laws of the definitions.
pub mod AreaClasses
pub mod Determined
pub mod Faults
pub mod Good
pub mod KindFacts
pub mod Tested
