pub mod Openings
pub mod FormReasons
pub mod Placed
pub mod LineReasons
pub mod ScriptReasons
pub mod Holding
pub mod HoldingAfter
