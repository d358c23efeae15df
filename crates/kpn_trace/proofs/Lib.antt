-- Lemmas: words and the bytes that part them, the lines of events, whole traces.
pub mod Common
pub mod Parting
pub mod Padding
pub mod Lines
pub mod Traces
