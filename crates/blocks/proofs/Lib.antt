pub mod Overlays
pub mod RoundTrips
pub mod Ordered
pub mod Examples
pub mod SameStatements
pub mod Fronts
