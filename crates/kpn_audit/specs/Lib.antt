pub mod Place
pub mod Stored
pub mod Audit
pub mod Judged
pub mod Scene
pub mod Complete
pub mod Shown
