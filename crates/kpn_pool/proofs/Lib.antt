pub mod Common
mod Feeding
mod Emptying
mod Concluding
mod Recorded
pub mod Sharing
