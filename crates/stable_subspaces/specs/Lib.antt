pub mod Operator
pub mod Fitting
pub mod Splitting
