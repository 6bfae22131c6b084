pub mod Verdicts
pub mod Core
pub mod Claims
pub mod Learning
pub mod Machines
pub mod Results
pub mod Growth
