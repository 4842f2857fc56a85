pub mod Commands
pub mod Machines
pub mod Refusals
pub mod Listed
