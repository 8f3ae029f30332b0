mod Lists
mod Quorums
mod Voters
mod Unique
pub mod Ranks
pub mod Chains
mod ThreeChains
mod Cases
pub mod Commits
pub mod Line
mod Example
pub mod Counts
