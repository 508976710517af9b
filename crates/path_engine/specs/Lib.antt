pub mod Residual
pub mod Searches
