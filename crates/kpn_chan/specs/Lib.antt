pub mod Channel
pub mod Chunks
pub mod Ring
