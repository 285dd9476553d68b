pub mod Xors
