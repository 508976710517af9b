pub mod Always
pub mod Shows
pub mod Ends
