pub mod Checks
pub mod Edits
pub mod Normal
pub mod Refusals
pub mod Texts
