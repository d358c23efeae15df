pub mod Answers
pub mod TraceAnswers
pub mod Lines
pub mod Cut
pub mod Excerpt
pub mod Spots
pub mod Names
pub mod Concerned
