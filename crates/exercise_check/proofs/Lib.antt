mod Sequences
mod Goodness
mod Courses
mod Nexts
mod Moved
mod FirstSenders
mod Judged
mod Links
mod Explained
mod GoodLinks
mod Known
mod Causes
mod Conversions
mod Agreement
mod Refusals
mod Limits
pub mod Offered
