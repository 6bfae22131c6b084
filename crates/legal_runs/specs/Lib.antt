pub mod Readable
pub mod Columns
pub mod Agreement
pub mod GeneratedTexts
pub mod OperatorAnswers
