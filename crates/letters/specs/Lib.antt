pub mod Format
pub mod Contents
pub mod Bytes
pub mod Reading
pub mod OneForm
pub mod Code
pub mod Writing
pub mod Examples
