pub mod Lines
pub mod Reading
pub mod Report
pub mod Job
