-- What a round is, its premises and its conclusion; the tests that give a premise; the calls; when a compare finds nothing, and what it
-- counts; and MBIT's middle lamp.
pub mod Demand3
pub mod Tests
pub mod Calls
pub mod Bench
pub mod Found
pub mod Counts
pub mod Lamp
