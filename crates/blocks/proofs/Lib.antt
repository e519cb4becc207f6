-- The laws of what is put into a table; what a block writes and where it lies, the frame and the key rule; that MBIT touches one bit; what is done without
-- power; that it goes by the areas alone; when a compare reports none, and what it counts; the laws by which a kind's call meets its promise; that a contract decides its answer.
pub mod Areas
pub mod Counted
pub mod Determined
pub mod Doing
pub mod Modified
pub mod Places
pub mod Puts
pub mod Reported
pub mod Unpowered
pub mod Viewed
pub mod Written
