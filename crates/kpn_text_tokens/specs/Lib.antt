-- The definitions that contracts cite: steps that can fail, how tokens are spelled, what a scan returns, which language
-- a text is of, the rules of the format, and the laws.
pub mod Laws
pub mod Lexing
pub mod Opening
pub mod Results
pub mod Rules
pub mod Spelling
pub mod Numerals
