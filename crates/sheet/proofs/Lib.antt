pub mod Reading
pub mod RoundTrip
pub mod Taking
