pub mod Answers
pub mod ChangeLaws
pub mod Changes
pub mod Day
pub mod Left
pub mod Places
pub mod Parts
pub mod Store
