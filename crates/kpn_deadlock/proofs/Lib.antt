pub mod Common
pub mod Final
pub mod Searching
pub mod Telling
pub mod Stated
pub mod Least
