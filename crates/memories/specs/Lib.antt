pub mod Outside
pub mod Shown
