-- What the contracts of this crate cite: the line of one event, whole traces, laws.
pub mod EventLine
pub mod TraceText
pub mod Laws
