pub mod Faults
pub mod Books
pub mod Turns
pub mod Keeps
pub mod Events
