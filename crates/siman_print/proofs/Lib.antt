pub mod Digits
mod KeysApart
pub mod Reasons
pub mod Texts
