-- What every crate shares: refusals and what an answer says, the form of every contract, and names for lists of numbers.
pub mod Lists
pub mod Verdict
pub mod Promise
