pub mod Answering
pub mod ClearedRows
pub mod Occurring
pub mod Relisting
pub mod Repeating
pub mod Selected
pub mod Steps
