pub mod SplitLemmas
pub mod PartLemmas
pub mod LineLemmas
pub mod TokenLemmas
pub mod NumberLemmas
pub mod NumeralLemmas
