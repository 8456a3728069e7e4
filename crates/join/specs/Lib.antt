pub mod Failing
pub mod Joined
pub mod Laid
pub mod Steps
pub mod Theorems
pub mod Tripped
pub mod Undoing
