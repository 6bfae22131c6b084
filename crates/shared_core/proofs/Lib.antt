pub mod ClaimLemmas
pub mod LearntLemmas
pub mod RunLemmas
pub mod VerdictLaws
pub mod RunLaws
pub mod LearntLaws
