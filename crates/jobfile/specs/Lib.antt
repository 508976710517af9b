pub mod Seen
pub mod Opened
pub mod Writes
pub mod Written
