pub mod Policy
pub mod Shares
pub mod Dealing
pub mod Dealt
pub mod Granting
