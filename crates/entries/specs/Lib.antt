pub mod Limits
pub mod Sets
pub mod Lists
pub mod Laws
pub mod Filling
pub mod Place
