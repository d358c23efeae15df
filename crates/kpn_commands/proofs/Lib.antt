pub mod Common
pub mod Plain
pub mod Pauses
pub mod AnyOrder
-- Lemmas: what a run is handed.
pub mod Running
-- Lemmas: parts that are joined.
pub mod Joins
