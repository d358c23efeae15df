-- The definitions that contracts cite: what a call returns, the declaration of a constant, constants, and all steps.
pub mod Results
pub mod Declaration
pub mod Constants
pub mod Capacities
pub mod Sums
pub mod Hidden
pub mod Cells
pub mod Loops
pub mod Plain
pub mod Expanding
