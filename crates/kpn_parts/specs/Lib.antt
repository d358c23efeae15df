pub mod Cut
pub mod Homes
pub mod Joined
pub mod Links
