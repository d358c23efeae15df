pub mod Common
pub mod Adding
pub mod Given
pub mod Helping
pub mod Nothing
