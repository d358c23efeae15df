pub mod Ring
pub mod Told
pub mod Among
