pub mod Pieces
mod Rising
pub mod Entries
pub mod Rows
pub mod Counts
pub mod Members
pub mod SmallSets
pub mod Faults
