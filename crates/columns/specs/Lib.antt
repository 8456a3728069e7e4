pub mod Cols
pub mod Every
pub mod Members
pub mod Order
pub mod Sets
pub mod Shown
pub mod Sorted
pub mod Theorems
