pub mod Buffers
pub mod Taking
