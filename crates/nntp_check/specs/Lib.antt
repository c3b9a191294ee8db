pub mod Capture
pub mod Report
pub mod Show
pub mod Run
pub mod CommandLine
pub mod Inner
