pub mod Items
pub mod Build
pub mod Laws
