pub mod Acts
pub mod Exactly
pub mod Following
pub mod ReadLines
pub mod Refusing
pub mod Rising
pub mod Splitting
pub mod Tables
