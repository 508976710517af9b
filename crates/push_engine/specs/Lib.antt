pub mod Preflows
pub mod Moves
pub mod Lines
pub mod Props
