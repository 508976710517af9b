pub mod Faults
pub mod Rules
pub mod Nets
pub mod Runs
