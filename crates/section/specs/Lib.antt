-- Words in sections: how they are checked from the first on, what a section is and what sections in turn are, and what is true of
-- any list of them; and how a number is tested by a limit.
pub mod Limit
pub mod Walk
pub mod Section
pub mod Truths
