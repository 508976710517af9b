pub mod Figures
pub mod Going
