pub mod Sides
pub mod Arcs
pub mod Places
pub mod Closed
mod Searches
mod Walks
mod Ends
