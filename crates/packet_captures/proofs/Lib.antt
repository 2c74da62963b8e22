pub mod Stamps
pub mod OptionWalks
pub mod Windows
pub mod HeldFronts
pub mod Passing
pub mod BlockContents
pub mod Shorter
pub mod Nexts
pub mod Captures
pub mod Spellings
pub mod PcapSpellings
mod Headers
mod Tags
mod Fronts
mod Agreements
mod Agreements4
mod Agreements6
mod AgreementsLinks
mod Wholes
mod PartLaws
mod HeldLaws
mod Arrivals
mod Handings
