pub mod Sums
pub mod Operators
pub mod FirstFailing
pub mod RelationSums
pub mod AllColumns
pub mod Testing
pub mod Vetted
pub mod OneMatrix
