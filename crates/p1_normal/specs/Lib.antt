pub mod Units
pub mod Points
pub mod Actions
pub mod Relations
pub mod Tables
pub mod Sieving
