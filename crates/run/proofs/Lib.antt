-- The laws of visits and of a plan's steps, those that join the code to them; the calls one after the other; that a refusal changes nothing and
-- that the contract decides its answer.
pub mod Begun
pub mod ByScans
pub mod Determined
pub mod Fitting
pub mod Following
pub mod Front
pub mod Going
pub mod Kept
pub mod Levels
pub mod Paging
pub mod Running
pub mod Stepping
pub mod Turns
pub mod Visiting
