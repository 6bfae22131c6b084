pub mod DrawLemmas
pub mod DrawnFits
pub mod DrawnLines
pub mod DrawnTexts
pub mod FormLemmas
pub mod GeneratedLemmas
pub mod GenerationLemmas
mod LeastIndices
pub mod ReadingLemmas
pub mod ScriptLemmas
pub mod SessionLemmas
pub mod TableLemmas
pub mod TermLemmas
pub mod TestLemmas
pub mod WalkLemmas
pub mod WithinLemmas
