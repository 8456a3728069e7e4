pub mod DayBytes
pub mod Deeds
pub mod Kinds
pub mod States
pub mod Organs
pub mod Theorems
