pub mod Concludes
pub mod Command
