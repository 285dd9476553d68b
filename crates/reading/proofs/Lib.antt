pub mod Settles
pub mod Stretching
