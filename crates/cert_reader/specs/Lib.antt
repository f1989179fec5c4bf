pub mod Limits
pub mod Fronts
pub mod Items
pub mod Lines
pub mod LineReading
pub mod CertLines
pub mod CertReading
pub mod Certificates
