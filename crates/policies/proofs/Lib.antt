pub mod Standing
pub mod Reshelving
pub mod Turns
pub mod SharesAt
