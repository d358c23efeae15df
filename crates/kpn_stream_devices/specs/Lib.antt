pub mod Floats
pub mod Formats
pub mod Head
pub mod Window
pub mod SourceInputs
pub mod SinkOutputs
pub mod Out
