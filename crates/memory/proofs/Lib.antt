pub mod Packing
mod Caching
mod Copying
