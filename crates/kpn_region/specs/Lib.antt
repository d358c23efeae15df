pub mod Local
pub mod Batch
pub mod Turn
pub mod Joining
pub mod Agreeing
pub mod JoiningParts
