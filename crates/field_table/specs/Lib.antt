pub mod InnerProduct
pub mod Places
pub mod Ratio
pub mod Residues
pub mod Table
pub mod Terms
