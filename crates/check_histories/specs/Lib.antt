pub mod Networks
pub mod Runs
pub mod Views
pub mod WrongLists
pub mod Claims
pub mod Cuts
pub mod Orders
