-- The power that a block's inputs pass.
pub mod Input
