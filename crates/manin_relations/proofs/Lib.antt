pub mod Occurrences
pub mod RelationVectors
pub mod RelationLaws
pub mod RelationLists
pub mod RelationSums
