pub mod Scan
pub mod WalkSoFar
