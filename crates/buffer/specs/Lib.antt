pub mod Sets
pub mod Rows
pub mod Tasks
pub mod Buffers
