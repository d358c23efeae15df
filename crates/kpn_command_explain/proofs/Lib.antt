pub mod Common
pub mod Arms
pub mod Conclusions
