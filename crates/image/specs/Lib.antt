pub mod Extents
pub mod Layout
pub mod Making
pub mod Sized
pub mod Puts
pub mod Seen
