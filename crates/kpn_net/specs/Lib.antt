pub mod Tables
pub mod Faults
pub mod Process
pub mod Iteration
pub mod Waits
pub mod Finding
pub mod Sides
pub mod View
