pub mod Ticks
pub mod Shown
pub mod Held
pub mod Chain
pub mod ChainShown
pub mod Reordered
pub mod Schedules
