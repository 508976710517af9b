pub mod Sheets
pub mod Boards
pub mod Laws
pub mod Made
pub mod Faults
