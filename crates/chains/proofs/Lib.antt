pub mod ChainWritten
pub mod FollowedIsChosen
