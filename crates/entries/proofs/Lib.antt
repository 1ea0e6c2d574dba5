pub mod Width
pub mod Membership
pub mod Lookup
pub mod Rising
pub mod Place
pub mod Placing
pub mod Insertion
pub mod Known
