pub mod Few
pub mod Kept
