pub mod Fields
pub mod View
pub mod Calls
pub mod Sharing
pub mod Opening
