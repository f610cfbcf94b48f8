pub mod Lines
pub mod Ranges
