pub mod Others
pub mod OthersLemmas
