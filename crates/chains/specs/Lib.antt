pub mod ChainFollowed
pub mod Legs
