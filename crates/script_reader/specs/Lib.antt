pub mod Answers
pub mod Meanings
pub mod Pairs
pub mod Places
