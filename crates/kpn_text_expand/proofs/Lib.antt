-- The lemmas. Other crates may cite the public ones.
pub mod Common
mod Steps
mod Folds
mod Can
mod HiddenNames
mod PlainCapacities
mod PlainCells
mod PlainLoops
mod PlainSums
mod SpelledCapacities
mod SpelledCells
mod SpelledLoops
mod SpelledSums
pub mod Plain
pub mod PlainSpelling
pub mod Spelled
