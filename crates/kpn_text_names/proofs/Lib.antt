-- The lemmas. Other crates may cite the public ones.
pub mod Common
pub mod Chains
mod Closed
pub mod Steps
mod StatementSteps
mod Writing
mod Heads
mod Trees
pub mod KnownNames
pub mod KnownTargets
pub mod Growing
mod FirstTargets
pub mod Counts
mod Once
