-- The theorem about the line of a block, and the laws of its pieces.
pub mod Determined
pub mod Pieces
