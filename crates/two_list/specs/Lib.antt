pub mod Sides
pub mod Chains
pub mod Tables
pub mod Filling
pub mod Stores
pub mod Writes
pub mod Standing
