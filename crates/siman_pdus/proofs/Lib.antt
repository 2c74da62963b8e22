mod Ends
mod Values
mod SameValues
mod Texts
mod Bodies
mod Spellings
mod Same
mod Messages
mod Types
mod Carried
mod ReadRanges
pub mod Offered
