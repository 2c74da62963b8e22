pub mod Handed
pub mod Posts
pub mod Ends
pub mod Moves
