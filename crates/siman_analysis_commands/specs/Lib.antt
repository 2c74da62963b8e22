pub mod FilterWords
pub mod Review
pub mod View
pub mod ChartWords
pub mod Picture
pub mod Chart
