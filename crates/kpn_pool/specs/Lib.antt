pub mod Fed
pub mod Ending
pub mod Causes
