pub mod Reading
pub mod EntrySteps
pub mod EntryTrips
pub mod Passing
pub mod CertificateTrips
pub mod MessageTrips
pub mod Fields
pub mod Ranked
