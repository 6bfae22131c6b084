pub mod Merel
pub mod Order
pub mod Sets
