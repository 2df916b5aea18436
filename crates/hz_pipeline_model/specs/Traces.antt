-- The texts of traces, and the traces that a drill draws.
pub mod TraceNames
pub mod Traces
pub mod TraceLines
pub mod TraceLimits
pub mod Drills
