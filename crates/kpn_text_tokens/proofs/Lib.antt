-- The lemmas. Other crates may cite the public ones: the rules (`Follows`, `TokenLaws`,
-- `NumeralLaws`), white space (`Parting`), the
-- tokens without their places (`WithoutPlaces`), the language of a text (`Openings`), and what a search finds
-- (`Pieces`).
pub mod Common
mod Digits
pub mod Follows
pub mod NumeralLaws
pub mod Openings
pub mod WithoutPlaces
pub mod Parting
pub mod Pieces
mod Runs
mod Scanning
mod Tables
pub mod TokenLaws
