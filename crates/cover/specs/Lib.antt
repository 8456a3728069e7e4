pub mod Answer
pub mod Fine
pub mod Held
pub mod Least
pub mod Ordered
pub mod Queued
pub mod Trimmed
pub mod RuleLists
