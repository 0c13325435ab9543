pub mod Letters
pub mod Sets
pub mod Spellings
