mod WrittenLexemes
mod GroundSizes
mod ReadCommands
mod WrittenAnswers
mod WrittenRefusals
mod ScriptLimits
mod LegalTexts
mod FewColumns
pub mod ReadableLemmas
pub mod BoundedColumns
pub mod FixedReplies
mod DrawnTexts
pub mod GeneratedTexts
pub mod OperatorReplies
