pub mod Order
pub mod Iterators
