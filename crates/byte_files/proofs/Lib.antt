mod Codec
mod Wrong
mod Fields
mod Repeats
mod Writes
mod Lost
mod Texts
pub mod LineReadings
pub mod Offered
