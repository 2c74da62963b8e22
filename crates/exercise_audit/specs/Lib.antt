pub mod Next
pub mod Time
pub mod Audit
pub mod Longest
pub mod Turns
pub mod Search
pub mod Waiting
pub mod Written
