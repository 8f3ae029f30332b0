pub mod Likeness
pub mod Walk
pub mod Alike
pub mod Puts
pub mod Laws
pub mod Example
pub mod ByKey
