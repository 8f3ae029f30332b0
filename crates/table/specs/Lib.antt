pub mod Places
pub mod Ancestry
pub mod Committed
pub mod Laws
