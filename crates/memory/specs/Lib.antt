pub mod Refusals
pub mod Words
pub mod Bytes
pub mod Rows
pub mod Second
pub mod Client
pub mod Adler
