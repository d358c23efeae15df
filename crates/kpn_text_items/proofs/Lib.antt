-- Lemmas: lines of a text, files read line by line, digits, readers, and the laws.
pub mod Common
pub mod LineLemmas
pub mod FileLemmas
pub mod DigitLemmas
pub mod ReaderLemmas
pub mod LawLemmas
pub mod CountLemmas
