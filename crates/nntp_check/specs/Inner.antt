pub mod Capture
pub mod CaptureReading
pub mod Sinks
pub mod Collecting
pub mod Report
pub mod Showing
pub mod Faults
pub mod CommandLine
