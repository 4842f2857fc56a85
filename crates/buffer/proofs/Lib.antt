mod Buffering
mod Covering
pub mod Taking
