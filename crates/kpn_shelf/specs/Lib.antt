pub mod Shelf
pub mod NonblockingRead
pub mod MemoryShelf
