pub mod Buffers
pub mod Terminated
