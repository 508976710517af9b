pub mod Names
pub mod Runs
pub mod Writes
pub mod Copies
