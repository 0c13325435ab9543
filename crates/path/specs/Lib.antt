pub mod Laws
pub mod Normal
pub mod Pieces
