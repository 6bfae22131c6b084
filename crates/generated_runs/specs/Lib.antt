pub mod Splits
pub mod Unrefused
pub mod FixedRuns
pub mod GeneratedRuns
