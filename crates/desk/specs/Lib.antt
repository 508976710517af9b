pub mod Desks
pub mod Racks
