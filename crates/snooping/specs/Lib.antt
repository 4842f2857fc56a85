pub mod States
pub mod Lines
pub mod Grid
pub mod Caches
pub mod Layout
pub mod Report
pub mod Snooping
