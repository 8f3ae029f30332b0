pub mod Walks
pub mod Counts
pub mod Puts
pub mod Lawful
pub mod Example
