pub mod Common
pub mod Batches
pub mod Keeping
pub mod Recording
pub mod Seating
pub mod Dividing
