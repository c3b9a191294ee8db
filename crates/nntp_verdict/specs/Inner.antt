pub mod Verdict
pub mod Judging
pub mod Checking
pub mod Coded
pub mod CheckerView
