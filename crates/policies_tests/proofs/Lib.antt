pub mod OthersAt
