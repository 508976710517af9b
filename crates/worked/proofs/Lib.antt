pub mod Tests
pub mod Ready
pub mod Files
pub mod Sheets
pub mod Trails
pub mod Loads
pub mod Rights
