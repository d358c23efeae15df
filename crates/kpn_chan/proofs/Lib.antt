pub mod Common
pub mod Walks
pub mod Places
pub mod Reading
