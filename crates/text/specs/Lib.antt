-- What the contracts of `text`, `lines` and `ends` cite: the text of a line, a line laid into a buffer, and bytes put there.
pub mod Text
pub mod Inner
