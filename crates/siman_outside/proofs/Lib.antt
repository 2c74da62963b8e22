mod Chosen
mod Counted
mod Inputs
mod Openings
mod Passings
mod Shown
mod Searches
mod Settles
mod Verdicts
pub mod Offered
mod Lasts
mod Torn
