pub mod Powers
pub mod Fitting
pub mod Refining
pub mod Polynomials
