pub mod Devices
pub mod Ending
pub mod Lists
pub mod Streaming
pub mod Closing
pub mod Watching
