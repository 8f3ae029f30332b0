pub mod Lists
pub mod Committees
pub mod Runs
pub mod Ranks
pub mod Certificates
pub mod Rules
pub mod Theorems
