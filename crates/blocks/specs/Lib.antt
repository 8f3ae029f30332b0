pub mod Layout
pub mod Limits
pub mod Ranks
pub mod Statements
pub mod Heads
pub mod Sameness
pub mod RoundTrips
pub mod Examples
