pub mod Orders
pub mod Ended
pub mod Alike
pub mod Props
