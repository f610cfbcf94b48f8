pub mod Plain
pub mod Saying
pub mod Lines
pub mod Unambiguous
pub mod Settling
pub mod Reports
pub mod Under
