pub mod Walks
pub mod Orders
pub mod Lookups
pub mod Agreements
pub mod Chains
