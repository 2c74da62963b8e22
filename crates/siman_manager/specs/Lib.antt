pub mod Book
pub mod Table
pub mod Blocks
pub mod Answers
pub mod Lending
pub mod Calls
pub mod Viewed
