pub mod Common
pub mod PieceLemmas
pub mod SourceLemmas
pub mod InputLemmas
-- Lemmas: outputs that are apart.
pub mod Apart
-- Lemmas: a line that is written piece by piece.
pub mod LineLemmas
