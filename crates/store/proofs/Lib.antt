pub mod Asking
pub mod Credit
pub mod Ends
pub mod Pledges
pub mod Replays
