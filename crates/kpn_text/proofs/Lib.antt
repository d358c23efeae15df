-- The lemmas. Other crates may cite the public ones.
pub mod Common
pub mod KeptNames
pub mod Parameters
mod TokenPhases
pub mod ReadingLaws
pub mod Tables
pub mod Refusals
pub mod NamedBodies
pub mod StandingRows
pub mod SortedDeclarations
pub mod DeclaredRows
pub mod UsedTables
pub mod SharedTables
pub mod NamedProcesses
pub mod NamedItems
pub mod RoundTrip
pub mod NamesAreText
-- The lemmas.
mod TokenLemmas
mod TermLemmas
mod StatementLemmas
mod ListLemmas
mod ProcessLemmas
mod NetworkLemmas
mod ProperLemmas
mod PrintingLemmas
mod BlockLemmas
mod ChannelLemmas
