pub mod Ways
pub mod PrimePowers
pub mod Polynomials
