pub mod Hecke
pub mod Chains
pub mod Turns
pub mod Steps
pub mod Walks
pub mod Held
pub mod Gathering
