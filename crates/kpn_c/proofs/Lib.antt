pub mod Common
pub mod Values
pub mod Leading
pub mod OneMore
pub mod Networks
pub mod SessionLemmas
pub mod OneWanted
pub mod Shown
