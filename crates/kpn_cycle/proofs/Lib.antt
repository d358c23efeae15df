pub mod Common
pub mod Scans
pub mod Walks
pub mod Ends
