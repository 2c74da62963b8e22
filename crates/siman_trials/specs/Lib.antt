pub mod MemorySocket
pub mod Recorded
pub mod Moves
pub mod Ended
