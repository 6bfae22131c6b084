pub mod Statuses
pub mod Runs
pub mod Workers
pub mod Works
pub mod Sessions
pub mod Lookups
pub mod Programs
