pub mod Sums
pub mod Spaces
pub mod SymbolRows
pub mod RowSums
pub mod Unique
pub mod Maps
