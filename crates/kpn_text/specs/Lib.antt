-- The definitions that contracts cite: documents, which text spells which, the phases of reading, and which fault
-- states what a phase finds.
pub mod Document
pub mod Spells
pub mod Fault
pub mod Phases
pub mod Laws
pub mod Making
pub mod Again
-- The definitions that contracts cite: the canonical text of a description, which trees have one, its laws, and the
-- description that tables and names stand for.
pub mod Text
pub mod Proper
pub mod CanonicalLaws
pub mod Named
pub mod Writing
pub mod Seconds
