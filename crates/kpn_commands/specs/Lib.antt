pub mod Answers
pub mod Join
pub mod JoinParts
pub mod TextOf
pub mod RoundsText
pub mod Rounds
pub mod BuiltIn
pub mod AloneText
pub mod Plain
pub mod Laws
pub mod Refused
pub mod Alone
-- What the contracts of this crate speak of: the limits of a run, what was run, the files that it stores, and what the
-- command comes to.
pub mod Limits
pub mod Reported
pub mod Files
pub mod Run
