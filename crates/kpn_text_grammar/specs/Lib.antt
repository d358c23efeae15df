pub mod TokenTests
pub mod Operators
pub mod Syntax
pub mod Words
pub mod Spelling
pub mod Reading
pub mod View
pub mod Laws
