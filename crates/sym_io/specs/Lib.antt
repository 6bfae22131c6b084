pub mod Adapters
pub mod Causes
pub mod Plans
pub mod Reading
pub mod Writing
