pub mod Characters
pub mod Checks
pub mod Frames
pub mod Left
pub mod Places
pub mod Refusals
pub mod Sequences
pub mod Views
