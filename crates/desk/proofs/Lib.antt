pub mod Carries
pub mod Racks
pub mod Spent
